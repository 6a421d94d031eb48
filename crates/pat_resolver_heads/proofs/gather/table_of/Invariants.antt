use Rattle.std.proofs.Common.{◌≡◌, map, take}
use Rattle.pat_tree.specs.Views.{message_view}
use Rattle.pat_resolver_heads.proofs.gather.table_of.Given as goal

abbrev pub invariant-loop-message : goal.invariant-loop-message
invariant-loop-message l = l.tags ≡ map (λ m. m.name.text) (map message_view (take l.message-index l.messages))
