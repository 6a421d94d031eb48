use Rattle.std.proofs.Common.{◌≡◌, ℕ, true, ◌||◌, drop}
use Rattle.pat_semantics_spec.specs.Configs.{env_refers}
use Rattle.pat_reduce_values.specs.ValueViews.{env_view}
use Rattle.pat_checkpoint_spec.specs.Numbers.{env_lives}
use Rattle.pat_checkpoint_numbers.specs.Marked.{is_marked}
use Rattle.pat_checkpoint_parts.proofs.order.mark_all.Given as goal

-- what is marked, with what is left, is all
abbrev pub invariant-loop-value : goal.invariant-loop-value
invariant-loop-value l = record {
  live : l.marks.live.now ≡ l.fn.marks.live.now;
  lives : env_lives l.fn.marks.live.now (env_view (drop l.value-index l.env)) ≡ true;
  marked : (b : ℕ) → (env_refers b (env_view (drop l.value-index l.env)) || is_marked l.marks b) ≡ (env_refers b (env_view l.env) || is_marked l.fn.marks b);
}
