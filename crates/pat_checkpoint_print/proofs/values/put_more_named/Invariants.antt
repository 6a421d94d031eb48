use Rattle.std.proofs.Common.{◌≡◌, ◌∷◌, ◌++◌, drop, map}
use Rattle.std.specs.List.{flat_map}
use Rattle.pat_reduce_values.specs.ValueViews.{env_view}
use Rattle.pat_checkpoint_spec.specs.text.ValueText.{named_text}
use Rattle.pat_checkpoint_print.specs.Ranges.{env_in_range}
use Rattle.pat_checkpoint_print.proofs.values.put_more_named.Given as goal

abbrev pub invariant-loop-variable : goal.invariant-loop-variable
invariant-loop-variable l = record {
  text : l.out.items ++ flat_map (λ y. 44 ∷ y) (map (λ e. 32 ∷ named_text e) (env_view (drop l.variable-index l.env))) ≡ l.initial.out.items ++ flat_map (λ y. 44 ∷ y) (map (λ e. 32 ∷ named_text e) (env_view l.env));
  range : env_in_range (env_view (drop l.variable-index l.env)) ≡ env_in_range (env_view l.env);
}
