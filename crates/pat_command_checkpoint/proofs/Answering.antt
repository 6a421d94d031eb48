-- What parts of an answer allow.
use Rattle.std.proofs.Common.{◌≡◌, ◌++◌, ℕ, List, length, map, Result, Ok as Done, Err as Failed, refl, sym, ap, ◌∙◌, subst, inl, inr}
use Rattle.std.specs.Prelude.{IfOk}
use Rattle.std.proofs.lemmas.List.{length-map}
use Rattle.pat_semantics_spec.specs.Programs.{Program}
use Rattle.pat_semantics_spec.specs.Configs.{Config}
use Rattle.pat_semantics_spec.specs.Runs.{Entry, Outcome}
use Rattle.pat_semantics_laws.specs.Laws.{history_steps}
use Rattle.pat_type_system_spec.specs.Interfaces.{interfaces_along}
use Rattle.pat_core.specs.declared.program.Program.{Program as CodeProgram}
use Rattle.pat_core.specs.Views.{program_view}
use Rattle.pat_reduce.specs.declared.config.Config.{Config as CodeConfig}
use Rattle.pat_reduce.specs.Views.{config_view, entry_view}
use Rattle.pat_checkpoint_run.specs.Gives.{outcome_view}
use Rattle.pat_resolver_spec.specs.Places.{Places, places}
use Rattle.pat_resolver_spec.specs.Resolved.{IsResolved}
use Rattle.pat_derivation_spec.specs.Derivations.{Derivation}
use Rattle.pat_derivation_spec.specs.Validity.{IsValid}
use Rattle.pat_derivations.specs.declared.data.Derivation.{Derivation as CodeDerivation}
use Rattle.pat_derivations.specs.Views.{derivation_view}
use Rattle.pat_derivation_text_spec.specs.DerivationText.{derivation_text}
use Rattle.pat_checkpoint_spec.specs.Checkpoints.{interfaces_of}
use Rattle.pat_checkpoint_spec.specs.Resumed.{IsResumed, start_checkpoint}
use Rattle.pat_checkpoint_run.specs.declared.resumed.Resumed.{Resumed}
use Rattle.pat_checkpoint.specs.Certified.{CanBeCertified}
use Rattle.pat_checkpoint.specs.declared.error.WriteError.TheVariants as unwritten
use Rattle.pat_checkpoint.specs.Strings.{HasSpelledStrings}
use Rattle.pat_checkpoint.specs.Writing.{IsWritten, IsRefusal}
use Rattle.pat_front.specs.declared.verdict.Verdict.TheVariants.{Unshown}
use Rattle.pat_front.specs.exit_answers.Answers.{SaysVerdict}
use Rattle.pat_front.specs.declared.exit_answers.answer.Answer.{Answer}
use Rattle.pat_front.specs.declared.exit_answers.status.Status.{Status}
use Rattle.pat_front.specs.declared.exit_answers.status.Status.TheVariants.{Ok, Refused, Usage, ReadFault, WriteFault, NoMemory, Budget, Waiting, Full}
use Rattle.pat_front.proofs.Resolved.{is_resolved}
use Rattle.pat_typecheck.specs.declared.inputs.Checked.TheVariants as checked
use Rattle.pat_typecheck.specs.Inputs.{IsAcceptedText}
use Rattle.pat_typecheck.specs.Checks.{IsChecked}
use Rattle.pat_checkpoint_input.specs.Pieces.{IsNoPiece}
use Rattle.pat_command_checkpoint.specs.Allowed.{RunsTo, AllowedRun, AllowedPiece, AllowedCheckpoint, AnswersAt, AnswersProgram, HasReached}
use Rattle.pat_checkpoint.proofs.Strings.{replay_spelled}

-- ---- where a run leads

module _ (p : Program) (d : Derivation) (steps : ℕ) (es : List Entry) (c : Config) (interfaces : List ℕ) (o : Outcome) (r : IsResumed p d (start_checkpoint p) steps es c interfaces o) where
  pub can_be_certified : CanBeCertified p d c interfaces
  can_be_certified = record {
    count = ap length r.kept ∙ length-map c.live (interfaces_along p (start_checkpoint p).config (history_steps es) (interfaces_of (start_checkpoint p)));
    typed = r.typed;
  }

  pub strings_spelled : (q : Places) → IsResolved p q → HasSpelledStrings c
  strings_spelled q resolved = replay_spelled p resolved.spelled es c r.reached

  abbrev runs_to : RunsTo p d steps
  runs_to = record { entries = es; config = c; interfaces = interfaces; outcome = o; resumed = r }

  -- what is answered there is answered of the program
  at_once : (out : List ℕ) (s : Status) → AnswersAt p d c interfaces out s → AnswersProgram p d steps out s
  at_once out Ok h = record { run = runs_to; text = h.0; written = h.1; shown = h.2 }
  at_once out (Refused v) h = (h.0, h.1, record { run = runs_to; first = h.2 }, h.3)
  at_once out Usage h = absurd h
  at_once out ReadFault h = absurd h
  at_once out WriteFault h = absurd h
  at_once out NoMemory h = absurd h
  at_once out Budget h = absurd h
  at_once out Waiting h = absurd h
  at_once out Full h = absurd h

  pub answered_at : {E : Type 0} (a : Result Answer E) → IfOk a (λ b. AnswersAt p d c interfaces b.text.items b.status) → IfOk a (λ b. AnswersProgram p d steps b.text.items b.status)
  answered_at (Failed e) h = tt
  answered_at (Done b) h = at_once b.text.items b.status h

-- ---- what is written of a configuration

module _ (p : Program) (d : Derivation) (c : Config) (interfaces : List ℕ) where
  pub written_at : {E : Type 0} (text behind : List ℕ) (a : Result Answer E) → behind ≡ text → IsWritten p d c interfaces text → IfOk a (λ b. b.status ≡ Ok) → IfOk a (λ b. b.text.items ≡ derivation_text p d ++ behind) → IfOk a (λ b. AnswersAt p d c interfaces b.text.items b.status)
  written_at text behind (Failed e) same written status shown = tt
  written_at text behind (Done b) same written status shown =
      subst (λ k. AnswersAt p d c interfaces b.text.items k) (sym status) (text, written, shown ∙ ap (λ t. derivation_text p d ++ t) same)

  pub unshown_at : {E : Type 0} (line : ℕ) (a : Result Answer E) → IsRefusal p d c interfaces (unwritten.Unshown line) → IfOk a (λ b. SaysVerdict (Unshown line) b.text.items b.status) → IfOk a (λ b. AnswersAt p d c interfaces b.text.items b.status)
  unshown_at line (Failed e) first says = tt
  unshown_at line (Done b) first says =
      subst (λ k. AnswersAt p d c interfaces b.text.items k) (sym says.0) (line, refl, first, says.1)

-- so where its parts are taken apart
pub in_parts : (p : Program) (d : Derivation) (steps : ℕ) (r : Resumed) (config : CodeConfig) (interfaces : List ℕ) → config ≡ r.config → interfaces ≡ r.interfaces → HasReached p d steps r → IsResumed p d (start_checkpoint p) steps (map entry_view r.entries) (config_view config) interfaces (outcome_view r.outcome)
in_parts p d steps r config interfaces same also h =
    subst (λ is. IsResumed p d (start_checkpoint p) steps (map entry_view r.entries) (config_view config) is (outcome_view r.outcome)) (sym also)
    (subst (λ (k : CodeConfig). IsResumed p d (start_checkpoint p) steps (map entry_view r.entries) (config_view k) r.interfaces (outcome_view r.outcome)) (sym same) h)

-- ---- the text of a program alone

of_accepted : (steps : ℕ) (bytes : List ℕ) (a : IsAcceptedText bytes) (out : List ℕ) (s : Status) → AnswersProgram a.program a.derivation steps out s → AllowedRun steps bytes out s
of_accepted steps bytes a out Ok h = (a, h)
of_accepted steps bytes a out (Refused v) h = inr (h.0, h.1, (a, h.2), h.3)
of_accepted steps bytes a out Usage h = absurd h
of_accepted steps bytes a out ReadFault h = absurd h
of_accepted steps bytes a out WriteFault h = absurd h
of_accepted steps bytes a out NoMemory h = absurd h
of_accepted steps bytes a out Budget h = absurd h
of_accepted steps bytes a out Waiting h = absurd h
of_accepted steps bytes a out Full h = absurd h

pub accepted_allowed : {E : Type 0} (steps : ℕ) (bytes : List ℕ) (p : CodeProgram) (d : CodeDerivation) (r : Result Answer E) → IsChecked bytes (checked.Accepted p d) → IfOk r (λ a. AnswersProgram (program_view p) (derivation_view d) steps a.text.items a.status) → IfOk r (λ a. AllowedRun steps bytes a.text.items a.status)
accepted_allowed steps bytes p d (Failed e) is answers = tt
accepted_allowed steps bytes p d (Done a) (t, spelled, well, made, typable, safe) answers =
    of_accepted steps bytes
    (record { tree = t; program = program_view p; spelled = spelled; derivation = derivation_view d; made = made; typable = typable; safe = safe }) a.text.items a.status
    answers

pub refused_allowed : (steps : ℕ) (bytes : List ℕ) (a : Answer) → IsChecked bytes (checked.Refused a) → AllowedRun steps bytes a.text.items a.status
refused_allowed steps bytes a (v, is, refusal) = subst (λ k. AllowedRun steps bytes a.text.items k) (sym is) (inl refusal)

-- what is accepted is a resolved program with a valid derivation
pub accepted_resolved : (p : CodeProgram) (d : CodeDerivation) → ((bytes : List ℕ) × IsChecked bytes (checked.Accepted p d)) → (q : Places) × IsResolved (program_view p) q
accepted_resolved p d (bytes, (t, spelled, well, made, typable, safe)) = (places t, is_resolved bytes t (program_view p) (places t) spelled refl)

pub accepted_valid : (p : CodeProgram) (d : CodeDerivation) → ((bytes : List ℕ) × IsChecked bytes (checked.Accepted p d)) → IsValid (program_view p) (derivation_view d)
accepted_valid p d (bytes, (t, spelled, well, made, typable, safe)) = made.valid

-- ---- whole inputs

module _ (steps : ℕ) (bytes : List ℕ) where
  of_run : IsNoPiece bytes → (out : List ℕ) (s : Status) → AllowedRun steps bytes out s → AllowedCheckpoint steps bytes out s
  of_run none out Ok h = inl (none, h)
  of_run none out (Refused v) h = inl (none, h)
  of_run none out Usage h = absurd h
  of_run none out ReadFault h = absurd h
  of_run none out WriteFault h = absurd h
  of_run none out NoMemory h = absurd h
  of_run none out Budget h = absurd h
  of_run none out Waiting h = absurd h
  of_run none out Full h = absurd h

  pub run_allowed : {E : Type 0} (a : Result Answer E) → IsNoPiece bytes → IfOk a (λ b. AllowedRun steps bytes b.text.items b.status) → IfOk a (λ b. AllowedCheckpoint steps bytes b.text.items b.status)
  run_allowed (Failed e) none h = tt
  run_allowed (Done b) none h = of_run none b.text.items b.status h

  of_piece : (out : List ℕ) (s : Status) → AllowedPiece bytes out s → AllowedCheckpoint steps bytes out s
  of_piece out Ok h = inr h
  of_piece out (Refused v) h = inr h
  of_piece out Usage h = absurd h
  of_piece out ReadFault h = absurd h
  of_piece out WriteFault h = absurd h
  of_piece out NoMemory h = absurd h
  of_piece out Budget h = absurd h
  of_piece out Waiting h = absurd h
  of_piece out Full h = absurd h

  pub piece_allowed : {E : Type 0} (a : Result Answer E) → IfOk a (λ b. AllowedPiece bytes b.text.items b.status) → IfOk a (λ b. AllowedCheckpoint steps bytes b.text.items b.status)
  piece_allowed (Failed e) h = tt
  piece_allowed (Done b) h = of_piece b.text.items b.status h
