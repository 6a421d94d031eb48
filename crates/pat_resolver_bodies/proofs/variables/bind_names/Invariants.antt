use Rattle.std.proofs.Common.{◌≡◌, ◌+◌, ◌++◌, length, drop, map}
use Rattle.pat_semantics_spec.specs.Programs.{kind_of}
use Rattle.pat_resolver_spec.specs.Scopes.{bind_names}
use Rattle.pat_resolver_spec.specs.Numbering.{kinds_for}
use Rattle.pat_core.specs.Views.{kind_view, sort_view}
use Rattle.pat_resolver_heads.specs.tables.Views.{scope_view}
use Rattle.pat_tree.specs.Views.{span_view, name_view}
use Rattle.pat_resolver_bodies.proofs.variables.bind_names.Given as goal

-- what is bound, and what is still to come, are the whole
abbrev pub invariant-loop-place : goal.invariant-loop-place
invariant-loop-place l = record {
  count : length l.variables.kinds ≡ length l.initial.variables.kinds + l.place;
  more : length l.scope ≡ length l.initial.scope + l.place;
  behind : drop l.place l.scope ≡ l.initial.scope;
  scope : bind_names (length l.variables.kinds) (map name_view (drop l.place l.names)) (map kind_of (map sort_view (drop l.place l.sorts))) (scope_view l.scope) ≡ bind_names (length l.initial.variables.kinds) (map name_view l.names) (map kind_of (map sort_view l.sorts)) (scope_view l.initial.scope);
  kinds : map kind_view l.variables.kinds ++ kinds_for (map name_view (drop l.place l.names)) (map kind_of (map sort_view (drop l.place l.sorts))) ≡ map kind_view l.initial.variables.kinds ++ kinds_for (map name_view l.names) (map kind_of (map sort_view l.sorts));
  spans : map span_view l.variables.spans ++ map (λ x. x.span) (map name_view (drop l.place l.names)) ≡ map span_view l.initial.variables.spans ++ map (λ x. x.span) (map name_view l.names);
}
