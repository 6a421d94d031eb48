use Rattle.std.proofs.Common.{◌≡◌, map, drop}
use Rattle.pat_type_system_spec.specs.Typings.{is_received}
use Rattle.pat_core.specs.Views.{clause_view}
use Rattle.pat_types.proofs.covering.is_received.Given as goal

-- the tag is received just where one of the clauses that are left has it
abbrev pub invariant-loop-clause : goal.invariant-loop-clause
invariant-loop-clause l = is_received (map clause_view (drop l.clause-index l.clauses)) l.fn.tag ≡ is_received (map clause_view l.clauses) l.fn.tag
