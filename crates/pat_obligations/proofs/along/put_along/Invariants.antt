use Rattle.std.proofs.Common.{◌≡◌, ◌+◌, ◌≤◌, ◌++◌, drop, length}
use Rattle.std.specs.Prelude.{vec_len, vec_capacity}
use Rattle.pat_types.specs.Views.{needs_view}
use Rattle.pat_obligations.specs.Views.{demands_view}
use Rattle.pat_obligations.specs.Ordered.{left_of, divides_along}
use Rattle.pat_obligations.proofs.along.put_along.Given as goal

-- the demands so far, what is left of each part for those to come, and room for these
abbrev pub invariant-loop-name : goal.invariant-loop-name
invariant-loop-name l = record {
  demands : demands_view l.out.items ++ divides_along (needs_view (drop l.name-index l.env)) (needs_view (drop l.in_bound l.bound)) (needs_view (drop l.in_body l.body)) ≡ demands_view l.initial.out.items ++ divides_along (needs_view l.env) (needs_view l.bound) (needs_view l.body);
  bound : left_of (needs_view (drop l.name-index l.env)) (needs_view (drop l.in_bound l.bound)) ≡ left_of (needs_view l.env) (needs_view l.bound);
  body : left_of (needs_view (drop l.name-index l.env)) (needs_view (drop l.in_body l.body)) ≡ left_of (needs_view l.env) (needs_view l.body);
  room : vec_len l.out + length (drop l.name-index l.env) ≤ vec_capacity l.out;
}
