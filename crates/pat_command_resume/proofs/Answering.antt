-- What parts of an answer allow.
use Rattle.std.proofs.Common.{ℕ, List, Result, Ok as Done, Err as Failed, sym, subst}
use Rattle.std.specs.Prelude.{IfOk}
use Rattle.pat_semantics_spec.specs.Programs.{Program}
use Rattle.pat_semantics_spec.specs.WellFormed.{WellFormed}
use Rattle.pat_semantics_spec.specs.Runs.{Outcome, EndDone, EndWaiting, EndFull, EndBudget}
use Rattle.pat_derivation_spec.specs.Derivations.{Derivation}
use Rattle.pat_checkpoint_spec.specs.Checkpoints.{Checkpoint}
use Rattle.pat_checkpoint_laws.specs.Laws.{CheckedIsSafe}
use Rattle.pat_checkpoint_input.specs.CheckedTexts.{HasCheckedParts, IsCheckpointRefusal}
use Rattle.pat_front.specs.declared.verdict.Verdict.{Verdict}
use Rattle.pat_front.specs.exit_answers.Answers.{SaysVerdict}
use Rattle.pat_front.specs.declared.exit_answers.answer.Answer.{Answer}
use Rattle.pat_front.specs.declared.exit_answers.status.Status.{Status}
use Rattle.pat_command_resume.specs.Allowed.{EndsWith, IsResumption, AllowedResume}
use Rattle.pat_command_resume.specs.Gives.{ShowsFrom}

module _ (steps : ℕ) (bytes : List ℕ) where
  -- what ended so has one of the statuses of a run
  ended : (out : List ℕ) (s : Status) (o : Outcome) → EndsWith o s → IsResumption steps bytes out s → AllowedResume steps bytes out s
  ended out s EndDone ends is = subst (AllowedResume steps bytes out) (sym ends) (subst (IsResumption steps bytes out) ends is)
  ended out s EndBudget ends is = subst (AllowedResume steps bytes out) (sym ends) (subst (IsResumption steps bytes out) ends is)
  ended out s EndWaiting ends is = subst (AllowedResume steps bytes out) (sym ends) (subst (IsResumption steps bytes out) ends is)
  ended out s EndFull ends is = absurd ends

  -- the run from a checked checkpoint is what is answered
  pub resumed : {E : Type 0} (p : Program) (d : Derivation) (x : Checkpoint) (r : Result Answer E) → CheckedIsSafe → WellFormed p → HasCheckedParts bytes p d x → IfOk r (λ a. ShowsFrom p d x steps a.text.items a.status) → IfOk r (λ a. AllowedResume steps bytes a.text.items a.status)
  resumed p d x (Failed e) safe well parts h = tt
  resumed p d x (Done a) safe well parts h =
      let checked = parts.checked in
      ended a.text.items a.status h.outcome h.ends
      (record {
        program = p;
        shown = d;
        from = x;
        parts = parts;
        outcome = h.outcome;
        ends = h.ends;
        goes = record {
          safe = λ ks c. safe p d x ks c well checked.checked;
          entries = h.entries;
          config = h.config;
          interfaces = h.interfaces;
          resumed = h.resumed;
          shown = h.shown;
        };
      })

  -- and so is why there is none
  pub refused : {E : Type 0} (v : Verdict) (r : Result Answer E) → IsCheckpointRefusal bytes v → IfOk r (λ a. SaysVerdict v a.text.items a.status) → IfOk r (λ a. AllowedResume steps bytes a.text.items a.status)
  refused v (Failed e) why says = tt
  refused v (Done a) why says = subst (AllowedResume steps bytes a.text.items) (sym says.0) (why, says.1)
