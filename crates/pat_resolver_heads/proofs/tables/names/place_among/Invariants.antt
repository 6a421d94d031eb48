use Rattle.std.proofs.Common.{◌≡◌, ◌+◌, drop, map, option_map}
use Rattle.pat_resolver_heads.specs.tables.Places.{place_of}
use Rattle.pat_resolver_heads.proofs.tables.names.place_among.Given as goal

-- none of those before
abbrev pub invariant-loop-place : goal.invariant-loop-place
invariant-loop-place l =
    place_of l.name (map (λ n. n.now) l.names) ≡ option_map (λ p. l.place + p) (place_of l.name (map (λ n. n.now) (drop l.place l.names)))
