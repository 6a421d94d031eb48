use Rattle.std.proofs.Common.{◌≡◌, ◌++◌, drop}
use Rattle.pat_reduce_values.specs.ValueViews.{env_view}
use Rattle.pat_reduce_values.proofs.environments.copied.Given as goal

-- the copies so far, and what is left
abbrev pub invariant-loop-entry : goal.invariant-loop-entry
invariant-loop-entry l = env_view l.own ++ env_view (drop l.entry-index l.env) ≡ env_view l.env
