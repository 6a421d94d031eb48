use Rattle.pat_machine.proofs.Rounds.{is_over}
use Rattle.pat_workers.proofs.finishing.outcome_of.Goals as goal

pub unreachable-requires : goal.unreachable-requires
unreachable-requires c = is_over c.args.machine.now c.requires c.in-None.ensures
