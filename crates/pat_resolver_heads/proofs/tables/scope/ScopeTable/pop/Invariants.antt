use Rattle.std.proofs.Common.{◌≡◌, drop}
use Rattle.pat_resolver_heads.proofs.tables.scope.ScopeTable.pop.Given as goal

abbrev pub invariant-loop : goal.invariant-loop
invariant-loop l = l.self ≡ drop l.counter l.initial.self
