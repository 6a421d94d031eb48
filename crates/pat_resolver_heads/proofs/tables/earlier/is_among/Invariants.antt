use Rattle.std.proofs.Common.{◌≡◌, drop, map}
use Rattle.pat_resolver_spec.specs.Scopes.{is_one_of}
use Rattle.pat_resolver_heads.proofs.tables.earlier.is_among.Given as goal

-- none of those before
abbrev pub invariant-loop-other : goal.invariant-loop-other
invariant-loop-other l =
    is_one_of l.name (map (λ n. n.now) (drop l.other-index l.names)) ≡ is_one_of l.name (map (λ n. n.now) l.names)
