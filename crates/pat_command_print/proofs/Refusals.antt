-- A line that refuses the bytes is allowed.
use Rattle.std.proofs.Common.{ℕ, List, Result, Ok as Done, Err as Failed, sym, subst}
use Rattle.std.specs.Prelude.{IfOk}
use Rattle.pat_front.specs.exit_answers.Answers.{Refuses}
use Rattle.pat_front.specs.declared.exit_answers.answer.Answer.{Answer}
use Rattle.pat_command_print.specs.Allowed.{AllowedPrint}

pub allowed : {E : Type 0} (bytes : List ℕ) (r : Result Answer E) → IfOk r (λ a. Refuses bytes a.text.items a.status) → IfOk r (λ a. AllowedPrint bytes a.text.items a.status)
allowed bytes (Done a) (v, refused, said) = subst (λ k. AllowedPrint bytes a.text.items k) (sym said.0) (refused, said.1)
allowed bytes (Failed e) h = tt
