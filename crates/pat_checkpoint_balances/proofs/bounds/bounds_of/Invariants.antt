use Rattle.pat_core.specs.Views.{program_view}
use Rattle.pat_checkpoint_balances.proofs.Lets.{IsEmptyTable, TellsFrom}
use Rattle.pat_checkpoint_balances.proofs.bounds.bounds_of.Given as goal

abbrev pub invariant-loop : goal.invariant-loop
invariant-loop l = IsEmptyTable l.index l.bounds

abbrev pub invariant-loop-n : goal.invariant-loop-n
invariant-loop-n l = TellsFrom (program_view l.program).nodes l.n l.bounds
