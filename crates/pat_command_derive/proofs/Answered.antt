-- What the code comes to is allowed.
use Rattle.std.proofs.Common.{ℕ, List, Result, Ok as Done, Err as Failed, sym, subst}
use Rattle.std.specs.Prelude.{IfOk}
use Rattle.pat_core.specs.declared.program.Program.{Program}
use Rattle.pat_core.specs.Views.{program_view}
use Rattle.pat_derivations.specs.declared.data.Derivation.{Derivation}
use Rattle.pat_derivations.specs.Views.{derivation_view}
use Rattle.pat_front.specs.declared.exit_answers.answer.Answer.{Answer}
use Rattle.pat_typecheck.specs.declared.inputs.Checked.TheVariants.{Accepted, Refused}
use Rattle.pat_typecheck.specs.Checks.{IsChecked}
use Rattle.pat_command_derive.specs.Allowed.{AllowedDerive, SaysDerivation}

pub accepted_allowed : {E : Type 0} (bytes : List ℕ) (p : Program) (d : Derivation) (r : Result Answer E) → IsChecked bytes (Accepted p d) → IfOk r (λ a. SaysDerivation (program_view p) (derivation_view d) a.text.items a.status) → IfOk r (λ a. AllowedDerive bytes a.text.items a.status)
accepted_allowed bytes p d (Failed e) is says = tt
accepted_allowed bytes p d (Done a) (t, spelled, well, made, typable, safe) says =
    subst (λ k. AllowedDerive bytes a.text.items k) (sym says.0)
    (record { tree = t; program = program_view p; spelled = spelled; derivation = derivation_view d; made = made; typable = typable; safe = safe }, says.1)

pub refused_allowed : (bytes : List ℕ) (a : Answer) → IsChecked bytes (Refused a) → AllowedDerive bytes a.text.items a.status
refused_allowed bytes a (v, is, refusal) = subst (λ k. AllowedDerive bytes a.text.items k) (sym is) refusal
