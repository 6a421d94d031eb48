use Rattle.std.proofs.Common.{◌≡◌, ◌+◌, ◌++◌, length, map, drop}
use Rattle.pat_resolver_spec.specs.Scopes.{bind_names}
use Rattle.pat_resolver_spec.specs.Numbering.{numbers_from}
use Rattle.pat_resolver.specs.numbering.Progress.{kinds_of}
use Rattle.pat_resolver_heads.specs.tables.Views.{scope_view}
use Rattle.pat_tree.specs.Views.{name_view}
use Rattle.pat_resolver.proofs.numbering.state.Numbering.bind_names.Given as goal

abbrev pub invariant-loop-name : goal.invariant-loop-name
invariant-loop-name l = record {
  next : l.self.next ≡ l.fn.self.next + l.name-index;
  numbers : l.numbers ++ numbers_from l.self.next (map name_view (drop l.name-index l.name-items)) ≡ numbers_from l.fn.self.next (map name_view l.name-items);
  nodes : l.self.nodes ≡ l.fn.self.nodes;
  scope :
      bind_names l.self.next (map name_view (drop l.name-index l.name-items)) (drop l.self.next (kinds_of l.context)) (scope_view l.self.scope)
      ≡ bind_names l.fn.self.next (map name_view l.name-items) (drop l.fn.self.next (kinds_of l.context)) (scope_view l.fn.self.scope);
  outer : length l.self.scope ≡ l.name-index + length l.fn.self.scope;
  kept : drop l.name-index l.self.scope ≡ l.fn.self.scope;
}
