use Rattle.std.proofs.Common.{◌≡◌, drop}
use Rattle.pat_grid.specs.tables.Waiting.{with_waits}
use Rattle.pat_grid.proofs.tables.passes.let_wait.Given as goal

abbrev pub invariant-loop-number : goal.invariant-loop-number
invariant-loop-number l = with_waits (drop l.number-index l.numbers) l.waits ≡ with_waits l.numbers l.initial.waits
