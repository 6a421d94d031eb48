use Rattle.std.proofs.Common.{drop}
use Rattle.pat_reduce_values.specs.ValueViews.{env_view}
use Rattle.pat_machine_laws.specs.refcounts.Naming.{times_in_env}
use Rattle.pat_replay.proofs.Walks.{IsUnderWay}
use Rattle.pat_replay.proofs.names.change_env.Given as goal

abbrev pub invariant-loop-entry : goal.invariant-loop-entry
invariant-loop-entry l = IsUnderWay l.change l.fn.times.items (λ a. times_in_env a (env_view l.env)) l.times.items (λ a. times_in_env a (env_view (drop l.entry-index l.env)))
