-- Parameters one after the other.
use Rattle.std.proofs.Common.{◌≡◌, ℕ, ◌+◌, List, [], ◌∷◌, ◌++◌, map, refl, append_assoc, add-one}
use Rattle.std.proofs.lemmas.List.{map-append}
use Rattle.pat_semantics_spec.specs.Programs.{kind_of}
use Rattle.pat_resolver_spec.specs.Scopes.{bind_names}
use Rattle.pat_syntax.specs.declared.span.Span.{Span}
use Rattle.pat_core.specs.declared.program.Kind.{Kind}
use Rattle.pat_core.specs.declared.program.Sort.{Sort}
use Rattle.pat_core.specs.Views.{kind_view, sort_view}
use Rattle.pat_resolver_heads.specs.declared.tables.scope.Variable.{Variable}
use Rattle.pat_resolver_heads.specs.tables.Views.{scope_view}
use Rattle.pat_tree.specs.declared.tree.Param.{Param}
use Rattle.pat_tree.specs.Views.{param_view, span_view}

-- one more parameter is bound
pub scope_more : (v w : ℕ) (xs : List Param) (ss : List Sort) (x : Param) (s : Sort) (k : Kind) (sc : List Variable) → w ≡ v → kind_view k ≡ kind_of (sort_view s) → bind_names (v + 1) (map (λ p. p.name) (map param_view xs)) (map kind_of (map sort_view ss)) (scope_view (record { name = x.name.text; number = w; kind = k } ∷ sc)) ≡ bind_names v (map (λ p. p.name) (map param_view (x ∷ xs))) (map kind_of (map sort_view (s ∷ ss))) (scope_view sc)
scope_more v w xs ss x s k sc e f = rw (e, add-one, f) refl

-- and has its kind
pub kinds_more : (ks : List Kind) (ss : List Sort) (s : Sort) (k : Kind) → kind_view k ≡ kind_of (sort_view s) → map kind_view (ks ++ k ∷ []) ++ map kind_of (map sort_view ss) ≡ map kind_view ks ++ map kind_of (map sort_view (s ∷ ss))
kinds_more ks ss s k f = rw (map-append, append_assoc, f) refl

-- and its place
pub spans_more : (ps : List Span) (xs : List Param) (x : Param) → map span_view (ps ++ x.name.span ∷ []) ++ map (λ p. p.name.span) (map param_view xs) ≡ map span_view ps ++ map (λ p. p.name.span) (map param_view (x ∷ xs))
spans_more ps xs x = rw (map-append, append_assoc) refl
