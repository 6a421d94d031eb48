use Rattle.std.proofs.Common.{◌≡◌, map, drop, []}
use Rattle.pat_resolver_spec.specs.Findings.{messages_findings}
use Rattle.pat_tree.specs.Views.{message_view}
use Rattle.pat_resolver_heads.specs.results.Results.{first_of}
use Rattle.pat_resolver_heads.specs.Names.{names_view}
use Rattle.pat_resolver_heads.proofs.check.check_messages.Given as goal

abbrev pub invariant-loop-message : goal.invariant-loop-message
invariant-loop-message l = first_of (messages_findings (names_view l.names) l.earlier (map message_view (drop l.message-index l.messages))) ≡ first_of (messages_findings (names_view l.names) [] (map message_view l.messages))
