use Rattle.std.proofs.Common.{◌≡◌, ◌+◌, ◌≤◌, drop}
use Rattle.pat_reduce_values.specs.ValueViews.{env_view}
use Rattle.pat_machine_laws.specs.refcounts.Naming.{times_in_env}
use Rattle.pat_machine_indexes.proofs.refcounts.freed.times_in_env.Given as goal

abbrev pub invariant-loop-entry : goal.invariant-loop-entry
invariant-loop-entry l =
    (l.times ≤ l.entry-index) × (l.times + times_in_env l.mailbox (env_view (drop l.entry-index l.env)) ≡ times_in_env l.mailbox (env_view l.env))
