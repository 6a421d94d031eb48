use Rattle.std.proofs.Common.{◌≡◌, drop}
use Rattle.pat_semantics_spec.specs.Configs.{env_refers}
use Rattle.pat_reduce_values.specs.ValueViews.{env_view}
use Rattle.pat_reduce.proofs.threads.references.env_refers.Given as goal

-- what is left decides it
abbrev pub invariant-loop-entry : goal.invariant-loop-entry
invariant-loop-entry l = env_refers l.mailbox (env_view (drop l.entry-index l.env)) ≡ env_refers l.mailbox (env_view l.env)
