use Rattle.std.proofs.Common.{◌≡◌, take, length}
use Rattle.pat_reduce_values.specs.ValueViews.{env_view}
use Rattle.pat_machine_threads.proofs.same.is_same_env.Given as goal

-- so far they are the same
abbrev pub invariant-loop-i : goal.invariant-loop-i
invariant-loop-i l = (length l.first ≡ length l.second) × (env_view (take l.i l.first) ≡ env_view (take l.i l.second))
