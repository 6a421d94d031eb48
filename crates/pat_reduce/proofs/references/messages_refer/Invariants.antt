use Rattle.std.proofs.Common.{◌≡◌, drop, map}
use Rattle.std.specs.List.{list_any}
use Rattle.pat_semantics_spec.specs.Configs.{message_refers}
use Rattle.pat_reduce.specs.threads.ThreadViews.{message_view}
use Rattle.pat_reduce.proofs.references.messages_refer.Given as goal

-- what is left decides it
abbrev pub invariant-loop-message : goal.invariant-loop-message
invariant-loop-message l = list_any (message_refers l.mailbox) (map message_view (drop l.message-index l.messages)) ≡ list_any (message_refers l.mailbox) (map message_view l.messages)
