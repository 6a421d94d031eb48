-- What is answered of a history behind a checkpoint.
use Rattle.std.proofs.Common.{◌<◌, ℕ, List, length, map, Result, Ok as Done, Err as Failed, refl, sym, subst, inl, inr}
use Rattle.std.specs.Prelude.{IfOk}
use Rattle.std.specs.List.{AllByRecursion}
use Rattle.std.proofs.lemmas.List.{length-map}
use Rattle.pat_semantics_spec.specs.Programs.{Program}
use Rattle.pat_semantics_spec.specs.Configs.{Config}
use Rattle.pat_semantics_spec.specs.Runs.{Entry}
use Rattle.pat_semantics_laws.specs.Laws.{history_steps}
use Rattle.pat_type_system_spec.specs.Interfaces.{interfaces_along}
use Rattle.pat_resolver_spec.specs.Places.{Places, places}
use Rattle.pat_resolver_spec.specs.Resolved.{IsResolved}
use Rattle.pat_derivation_spec.specs.Derivations.{Derivation}
use Rattle.pat_derivation_spec.specs.Validity.{IsValid}
use Rattle.pat_checkpoint_spec.specs.Checkpoints.{Checkpoint, interfaces_of}
use Rattle.pat_checkpoint_spec.specs.Resumed.{interfaces_after_history}
use Rattle.pat_checkpoint_laws.specs.Laws.{CheckedIsSafe}
use Rattle.pat_checkpoint_laws.specs.resuming.Laws.{ResumedIsTyped}
use Rattle.pat_checkpoint.specs.Certified.{CanBeCertified}
use Rattle.pat_checkpoint.specs.Strings.{HasSpelledStrings}
use Rattle.pat_checkpoint.specs.Laws.{ReplayedInterfacesAreThere, ReplayedStringsAreSpelled}
use Rattle.pat_checkpoint_input.specs.Pieces.{ReplaysPiece, RefusesPiece}
use Rattle.pat_front.specs.declared.verdict.Verdict.{Verdict}
use Rattle.pat_front.specs.exit_answers.Answers.{SaysVerdict}
use Rattle.pat_front.specs.declared.exit_answers.answer.Answer.{Answer}
use Rattle.pat_front.specs.declared.exit_answers.status.Status.{Status}
use Rattle.pat_front.specs.declared.exit_answers.status.Status.TheVariants.{Ok, Refused, Usage, ReadFault, WriteFault, NoMemory, Budget, Waiting, Full}
use Rattle.pat_front.proofs.Resolved.{is_resolved}
use Rattle.pat_command_checkpoint.specs.Allowed.{LeadsFrom, AllowedPiece, AnswersAt}

module _ (bytes : List ℕ) (p : Program) (d : Derivation) (x : Checkpoint) (es : List Entry) (c : Config) (replays : ReplaysPiece bytes p d x es c) where
  abbrev own_interfaces : List ℕ
  own_interfaces = interfaces_after_history p x es c

  -- the program is resolved, and the derivation valid
  pub resolved : (q : Places) × IsResolved p q
  resolved =
      let parts = replays.parts in
      let front = parts.has.has in
      let own = front.has in
      (places own.0, is_resolved parts.front own.0 p (places own.0) own.1 refl)

  pub valid : IsValid p d
  valid = let parts = replays.parts in let checked = parts.checked in checked.checked.valid

  -- where the history leads can be written
  pub certified : ResumedIsTyped → CanBeCertified p d c own_interfaces
  certified typed =
      let parts = replays.parts in
      let checked = parts.checked in
      let r = resolved.1 in
      record {
        count = length-map c.live (interfaces_along p x.config (history_steps es) (interfaces_of x));
        typed = typed p d x es c r.well_formed checked.checked replays.leads.replayed;
      }

  pub there : ReplayedInterfacesAreThere → AllByRecursion (λ i. i < length p.interfaces) own_interfaces
  there law =
      let parts = replays.parts in
      let checked = parts.checked in
      let r = resolved.1 in
      law p d parts.checkpoint x es c r.well_formed checked.checked checked.spelled replays.leads.replayed

  pub strings : ReplayedStringsAreSpelled → HasSpelledStrings c
  strings law =
      let parts = replays.parts in
      let checked = parts.checked in
      law p resolved.0 parts.checkpoint x es c resolved.1 checked.spelled replays.leads.replayed

  abbrev leads : CheckedIsSafe → LeadsFrom bytes
  leads safe =
      let parts = replays.parts in
      let checked = parts.checked in
      let r = resolved.1 in
      record { program = p; shown = d; from = x; entries = es; config = c; replays = replays; safe = λ ks last. safe p d x ks last r.well_formed checked.checked }

  at_once : CheckedIsSafe → (out : List ℕ) (s : Status) → AnswersAt p d c own_interfaces out s → AllowedPiece bytes out s
  at_once safe out Ok h = record { leads = leads safe; text = h.0; written = h.1; shown = h.2 }
  at_once safe out (Refused v) h = (inr (h.0, h.1, record { leads = leads safe; first = h.2 }), h.3)
  at_once safe out Usage h = absurd h
  at_once safe out ReadFault h = absurd h
  at_once safe out WriteFault h = absurd h
  at_once safe out NoMemory h = absurd h
  at_once safe out Budget h = absurd h
  at_once safe out Waiting h = absurd h
  at_once safe out Full h = absurd h

  pub piece_answered : {E : Type 0} (a : Result Answer E) → CheckedIsSafe → IfOk a (λ b. AnswersAt p d c own_interfaces b.text.items b.status) → IfOk a (λ b. AllowedPiece bytes b.text.items b.status)
  piece_answered (Failed e) safe h = tt
  piece_answered (Done b) safe h = at_once safe b.text.items b.status h

pub piece_refused : {E : Type 0} (bytes : List ℕ) (v : Verdict) (a : Result Answer E) → RefusesPiece bytes v → IfOk a (λ b. SaysVerdict v b.text.items b.status) → IfOk a (λ b. AllowedPiece bytes b.text.items b.status)
piece_refused bytes v (Failed e) why says = tt
piece_refused bytes v (Done b) why says = subst (λ k. AllowedPiece bytes b.text.items k) (sym says.0) (inl why, says.1)
