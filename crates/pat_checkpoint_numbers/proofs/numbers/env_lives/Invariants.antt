use Rattle.std.proofs.Common.{◌≡◌, drop}
use Rattle.pat_reduce_values.specs.ValueViews.{env_view}
use Rattle.pat_checkpoint_spec.specs.Numbers.{env_lives}
use Rattle.pat_checkpoint_numbers.proofs.numbers.env_lives.Given as goal

-- what is left decides it
abbrev pub invariant-loop-value : goal.invariant-loop-value
invariant-loop-value l = env_lives l.live (env_view (drop l.value-index l.env)) ≡ env_lives l.live (env_view l.env)
