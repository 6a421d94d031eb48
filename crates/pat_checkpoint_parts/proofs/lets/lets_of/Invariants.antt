use Rattle.std.proofs.Common.{◌≡◌, ℕ, ◌<◌, None, length, drop, map}
use Rattle.pat_core.specs.Views.{node_view}
use Rattle.pat_checkpoint_spec.specs.Kinds.{let_with}
use Rattle.pat_checkpoint_parts.specs.Tables.{binding_at}
use Rattle.pat_checkpoint_parts.proofs.lets.lets_of.Given as goal

-- no binding so far
abbrev pub invariant-loop : goal.invariant-loop
invariant-loop l = record { each : length l.lets ≡ l.index; none : (b : ℕ) → binding_at l.lets b ≡ None }

-- those of the nodes from here on
abbrev pub invariant-loop-n : goal.invariant-loop-n
invariant-loop-n l = record {
  each : length l.lets ≡ length l.nodes;
  right : (b : ℕ) → b < length l.nodes → binding_at l.lets b ≡ let_with (map node_view (drop l.n l.nodes)) b;
}
