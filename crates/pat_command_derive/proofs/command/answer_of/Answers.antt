use Rattle.std.proofs.Common.{subst}
use Rattle.pat_typecheck.specs.Checks.{IsChecked}
use Rattle.pat_command_derive.proofs.Answered.{accepted_allowed, refused_allowed}
use Rattle.pat_command_derive.proofs.command.answer_of.Goals as goal

pub returns-in-Accepted : goal.returns-in-Accepted
returns-in-Accepted c = λ bytes is.
    accepted_allowed bytes c.in-Accepted.program c.in-Accepted.derivation c.written.result (subst (IsChecked bytes) c.in-Accepted.is is) c.written.ensures

pub returns-in-Refused : goal.returns-in-Refused
returns-in-Refused c = λ bytes is. refused_allowed bytes c.in-Refused.answer (subst (IsChecked bytes) c.in-Refused.is is)
