use Rattle.std.proofs.Common.{sym, subst, List, ℕ}
use Rattle.pat_derivation_lines.specs.patterns.Answers.{Gives}
use Rattle.pat_checkpoint_text.proofs.Unquoting.{text_quoted, no_text_quoted}
use Rattle.pat_checkpoint_text.proofs.strings.read_quoted.Goals as goal

pub returns-in-Ok : goal.returns-in-Ok
returns-in-Ok c = subst (λ o. Gives {A = List ℕ} {B = List ℕ} (λ s. s) o c.unquoted.result) (sym (text_quoted c.args.raw.now c.in-Ok.ensures.cases.1)) c.unquoted.ensures

pub returns-in-Err : goal.returns-in-Err
returns-in-Err c = no_text_quoted c.args.raw.now c.in-Err.ensures.cases.0
