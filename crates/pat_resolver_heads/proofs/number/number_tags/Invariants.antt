use Rattle.std.proofs.Common.{◌≡◌, map, take}
use Rattle.pat_resolver_spec.specs.Heads.{tag_of}
use Rattle.pat_resolver_spec.specs.Places.{type_place}
use Rattle.pat_core.specs.Views.{tag_view}
use Rattle.pat_tree.specs.Views.{message_view}
use Rattle.pat_resolver_heads.specs.results.Views.{sort_place}
use Rattle.pat_resolver_heads.specs.Names.{names_view}
use Rattle.pat_resolver_heads.proofs.number.number_tags.Given as goal

abbrev pub invariant-loop-message : goal.invariant-loop-message
invariant-loop-message l = record {
  numbers : map tag_view l.tags ≡ map (tag_of (names_view l.names)) (map message_view (take l.message-index l.messages));
  places : map (λ t. map sort_place t.payloads) l.tags ≡ map (λ m. map type_place m.payloads) (map message_view (take l.message-index l.messages));
}
