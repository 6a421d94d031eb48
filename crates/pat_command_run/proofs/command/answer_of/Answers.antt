use Rattle.std.proofs.Common.{subst}
use Rattle.pat_typecheck.specs.Checks.{IsChecked}
use Rattle.pat_command_run.proofs.Runnable.{checked_well, checked_typable, accepted_allowed, refused_allowed}
use Rattle.pat_command_run.proofs.command.answer_of.Goals as goal

pub run_accepted-requires-clause-well : goal.run_accepted-requires-clause-well
run_accepted-requires-clause-well g c = checked_well c.in-Accepted.program c.in-Accepted.derivation (c.requires.checked.0, subst (IsChecked c.requires.checked.0) c.in-Accepted.is c.requires.checked.1)

pub run_accepted-requires-clause-typable : goal.run_accepted-requires-clause-typable
run_accepted-requires-clause-typable g c = checked_typable c.in-Accepted.program c.in-Accepted.derivation (c.requires.checked.0, subst (IsChecked c.requires.checked.0) c.in-Accepted.is c.requires.checked.1)

pub returns-in-Accepted : goal.returns-in-Accepted
returns-in-Accepted g c = λ bytes is.
    accepted_allowed c.args.detail c.args.options bytes c.in-Accepted.program c.in-Accepted.derivation c.run_accepted.result (subst (IsChecked bytes) c.in-Accepted.is is) c.run_accepted.ensures

pub returns-in-Refused : goal.returns-in-Refused
returns-in-Refused g c = λ bytes is. refused_allowed c.args.detail c.args.options bytes c.in-Refused.answer (subst (IsChecked bytes) c.in-Refused.is is)
