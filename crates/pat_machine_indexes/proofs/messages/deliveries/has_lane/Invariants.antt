use Rattle.std.proofs.Common.{◌≡◌, drop, map}
use Rattle.pat_core.specs.Views.{clause_view}
use Rattle.pat_machine_indexes.specs.messages.Deliveries.{has_lane}
use Rattle.pat_machine_indexes.proofs.messages.deliveries.has_lane.Given as goal

-- what is left decides it
abbrev pub invariant-loop-clause : goal.invariant-loop-clause
invariant-loop-clause l = has_lane l.lane (map clause_view (drop l.clause-index l.clauses)) ≡ has_lane l.lane (map clause_view l.clauses)
