use Rattle.std.proofs.Common.{◌≡◌, length}
use Rattle.pat_infer.proofs.making.empty_problem.Given as goal

-- so many places are made
abbrev pub invariant-loop : goal.invariant-loop
invariant-loop l = length l.nodes ≡ l.counter
