use Rattle.std.proofs.Common.{◌≡◌, ◌++◌, length, drop, map}
use Rattle.pat_semantics_spec.specs.Programs.{kind_of}
use Rattle.pat_resolver_spec.specs.Scopes.{bind_names}
use Rattle.pat_resolver_spec.specs.Heads.{params_scope}
use Rattle.pat_core.specs.Views.{kind_view, sort_view}
use Rattle.pat_resolver_heads.specs.tables.Views.{scope_view}
use Rattle.pat_tree.specs.Views.{span_view, param_view}
use Rattle.pat_resolver.proofs.heads.bind_params.Given as goal

-- what is bound, and what is still to come, are the whole
abbrev pub invariant-loop-place : goal.invariant-loop-place
invariant-loop-place l = record {
  numbers : length l.variables.kinds ≡ l.place;
  count : length l.scope ≡ l.place;
  scope : bind_names l.place (map (λ p. p.name) (map param_view (drop l.place l.params))) (map kind_of (map sort_view (drop l.place l.sorts))) (scope_view l.scope) ≡ params_scope (map sort_view l.sorts) (map param_view l.params);
  kinds : map kind_view l.variables.kinds ++ map kind_of (map sort_view (drop l.place l.sorts)) ≡ map kind_of (map sort_view l.sorts);
  spans : map span_view l.variables.spans ++ map (λ p. p.name.span) (map param_view (drop l.place l.params)) ≡ map (λ p. p.name.span) (map param_view l.params);
}
