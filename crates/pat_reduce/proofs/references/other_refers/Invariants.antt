use Rattle.std.proofs.Common.{◌≡◌, drop}
use Rattle.pat_semantics_spec.specs.Configs.{other_refers}
use Rattle.pat_reduce.specs.Views.{threads_view}
use Rattle.pat_reduce.proofs.references.other_refers.Given as goal

-- what is left decides it
abbrev pub invariant-loop-entry : goal.invariant-loop-entry
invariant-loop-entry l = other_refers l.mailbox l.thread (threads_view (drop l.entry-index l.threads)) ≡ other_refers l.mailbox l.thread (threads_view l.threads)
