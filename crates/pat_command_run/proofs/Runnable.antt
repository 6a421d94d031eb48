-- What the code comes to is allowed.
use Rattle.std.proofs.Common.{ℕ, List, Result, Ok as Done, Err as Failed, refl, sym, subst}
use Rattle.std.specs.Prelude.{IfOk}
use Rattle.pat_semantics_spec.specs.WellFormed.{WellFormed}
use Rattle.pat_semantics_spec.specs.Runs.{EndDone, EndWaiting, EndFull, EndBudget}
use Rattle.pat_type_system_spec.specs.Typings.{IsTypable}
use Rattle.pat_core.specs.declared.program.Program.{Program}
use Rattle.pat_core.specs.Views.{program_view}
use Rattle.pat_derivations.specs.declared.data.Derivation.{Derivation}
use Rattle.pat_derivations.specs.Views.{derivation_view}
use Rattle.pat_run.specs.declared.options.options.RunOptions.{RunOptions}
use Rattle.pat_front.specs.declared.exit_answers.answer.Answer.{Answer}
use Rattle.pat_front.specs.declared.exit_answers.status.Status.{Status}
use Rattle.pat_typecheck.specs.declared.inputs.Checked.TheVariants.{Accepted, Refused}
use Rattle.pat_typecheck.specs.Checks.{IsChecked}
use Rattle.pat_typecheck.specs.Inputs.{IsAcceptedText}
use Rattle.pat_command_run.specs.declared.command.Detail.{Detail}
use Rattle.pat_command_run.specs.Allowed.{RunShows, AllowedRun}

-- what is shown of a run is allowed, with the status of its outcome
shown_allowed : (d : Detail) (options : RunOptions) (bytes text : List ℕ) (s : Status) (r : IsAcceptedText bytes) → RunShows r.program d options text s → AllowedRun d options bytes text s
shown_allowed d options bytes text s r (EndDone, ends, to) = subst (λ k. AllowedRun d options bytes text k) (sym ends) (r, (EndDone, refl, to))
shown_allowed d options bytes text s r (EndBudget, ends, to) = subst (λ k. AllowedRun d options bytes text k) (sym ends) (r, (EndBudget, refl, to))
shown_allowed d options bytes text s r (EndWaiting, ends, to) = subst (λ k. AllowedRun d options bytes text k) (sym ends) (r, (EndWaiting, refl, to))
shown_allowed d options bytes text s r (EndFull, ends, to) = subst (λ k. AllowedRun d options bytes text k) (sym ends) (r, (EndFull, refl, to))

-- an accepted program is one that may run
pub checked_well : (p : Program) (d : Derivation) → ((bytes : List ℕ) × IsChecked bytes (Accepted p d)) → WellFormed (program_view p)
checked_well p d is = is.1.2

pub checked_typable : (p : Program) (d : Derivation) → ((bytes : List ℕ) × IsChecked bytes (Accepted p d)) → IsTypable (program_view p)
checked_typable p d is = is.1.4

pub accepted_allowed : {E : Type 0} (d : Detail) (options : RunOptions) (bytes : List ℕ) (p : Program) (v : Derivation) (r : Result Answer E) → IsChecked bytes (Accepted p v) → IfOk r (λ a. RunShows (program_view p) d options a.text.items a.status) → IfOk r (λ a. AllowedRun d options bytes a.text.items a.status)
accepted_allowed d options bytes p v (Failed e) is shows = tt
accepted_allowed d options bytes p v (Done a) (t, spelled, well, made, typable, safe) shows =
    shown_allowed d options bytes a.text.items a.status
    (record { tree = t; program = program_view p; spelled = spelled; derivation = derivation_view v; made = made; typable = typable; safe = safe }) shows

pub refused_allowed : (d : Detail) (options : RunOptions) (bytes : List ℕ) (a : Answer) → IsChecked bytes (Refused a) → AllowedRun d options bytes a.text.items a.status
refused_allowed d options bytes a (v, is, refusal) = subst (λ k. AllowedRun d options bytes a.text.items k) (sym is) refusal
