use Rattle.std.proofs.Common.{subst}
use Rattle.pat_typecheck.specs.Checks.{IsChecked}
use Rattle.pat_command_checkpoint.proofs.Answering.{accepted_allowed, accepted_resolved, accepted_valid, refused_allowed}
use Rattle.pat_command_checkpoint.proofs.command.answer_of.Goals as goal

pub of_program-requires-clause-resolved : goal.of_program-requires-clause-resolved
of_program-requires-clause-resolved c = accepted_resolved c.in-Accepted.program c.in-Accepted.derivation (c.requires.checked.0, subst (IsChecked c.requires.checked.0) c.in-Accepted.is c.requires.checked.1)

pub of_program-requires-clause-valid : goal.of_program-requires-clause-valid
of_program-requires-clause-valid c = accepted_valid c.in-Accepted.program c.in-Accepted.derivation (c.requires.checked.0, subst (IsChecked c.requires.checked.0) c.in-Accepted.is c.requires.checked.1)

pub returns-in-Accepted : goal.returns-in-Accepted
returns-in-Accepted c = λ bytes is.
    accepted_allowed c.args.steps bytes c.in-Accepted.program c.in-Accepted.derivation c.of_program.result (subst (IsChecked bytes) c.in-Accepted.is is) c.of_program.ensures

pub returns-in-Refused : goal.returns-in-Refused
returns-in-Refused c = λ bytes is. refused_allowed c.args.steps bytes c.in-Refused.answer (subst (IsChecked bytes) c.in-Refused.is is)
