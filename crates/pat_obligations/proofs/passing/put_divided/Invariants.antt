use Rattle.std.proofs.Common.{◌≡◌, ◌+◌, ◌≤◌, ◌++◌, drop, length}
use Rattle.std.specs.Prelude.{vec_len, vec_capacity}
use Rattle.pat_types.specs.Views.{needs_view}
use Rattle.pat_obligations.specs.Views.{demands_view}
use Rattle.pat_obligations.specs.Listed.{divides_in}
use Rattle.pat_obligations.proofs.passing.put_divided.Given as goal

-- the demands so far, and room for those to come
abbrev pub invariant-loop-name : goal.invariant-loop-name
invariant-loop-name l = record {
  demands : demands_view l.out.items ++ divides_in (drop l.name-index l.names) l.but (needs_view l.given) (needs_view l.bound) (needs_view l.body) ≡ demands_view l.initial.out.items ++ divides_in l.names l.but (needs_view l.given) (needs_view l.bound) (needs_view l.body);
  room : vec_len l.out + length (drop l.name-index l.names) ≤ vec_capacity l.out;
}
