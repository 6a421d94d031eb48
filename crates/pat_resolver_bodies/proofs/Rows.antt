-- Items one after the other.
use Rattle.std.proofs.Common.{◌≡◌, ℕ, ◌+◌, ◌<◌, List, [], ◌∷◌, ◌++◌, drop, length, get_or, map, refl, ap, sym, ◌∙◌, append_assoc, add-one}
use Rattle.std.proofs.lemmas.List.{at_drop_more, map-append}
use Rattle.pat_semantics_spec.specs.Programs.{kind_of}
use Rattle.pat_resolver_spec.specs.Scopes.{bind_names}
use Rattle.pat_resolver_spec.specs.Numbering.{kinds_for}
use Rattle.pat_syntax.specs.declared.span.Span.{Span}
use Rattle.pat_core.specs.declared.program.Kind.{Kind}
use Rattle.pat_core.specs.declared.program.Sort.{Sort}
use Rattle.pat_core.specs.Views.{kind_view, sort_view}
use Rattle.pat_resolver_heads.specs.declared.tables.scope.Variable.{Variable}
use Rattle.pat_resolver_heads.specs.tables.Views.{scope_view}
use Rattle.pat_tree.specs.declared.pattern.Name.{Name}
use Rattle.pat_tree.specs.Views.{name_view, span_view}

-- the item at a place stands before those behind it
pub row_from : {A : Type 0} (xs : List A) (i : ℕ) (x : A) → i < length xs → x ≡ get_or xs i x → drop i xs ≡ x ∷ drop (i + 1) xs
row_from xs i x h e = at_drop_more (λ ys. ys) xs i x h ∙ ap (λ y. y ∷ drop (i + 1) xs) (sym e)

-- one more name is bound
pub scope_more : (v w : ℕ) (xs : List Name) (ss : List Sort) (x : Name) (s : Sort) (k : Kind) (sc : List Variable) → w ≡ v + 1 → kind_view k ≡ kind_of (sort_view s) → bind_names w (map name_view xs) (map kind_of (map sort_view ss)) (scope_view (record { name = x.text; number = v; kind = k } ∷ sc)) ≡ bind_names v (map name_view (x ∷ xs)) (map kind_of (map sort_view (s ∷ ss))) (scope_view sc)
scope_more v w xs ss x s k sc e f = rw (e, add-one, f) refl

-- and has its kind
pub kinds_more : (ks : List Kind) (xs : List Name) (ss : List Sort) (x : Name) (s : Sort) (k : Kind) → kind_view k ≡ kind_of (sort_view s) → map kind_view (ks ++ k ∷ []) ++ kinds_for (map name_view xs) (map kind_of (map sort_view ss)) ≡ map kind_view ks ++ kinds_for (map name_view (x ∷ xs)) (map kind_of (map sort_view (s ∷ ss)))
kinds_more ks xs ss x s k f = rw (map-append, append_assoc, f) refl

-- and its place
pub spans_more : (ps : List Span) (xs : List Name) (x : Name) → map span_view (ps ++ x.span ∷ []) ++ map (λ y. y.span) (map name_view xs) ≡ map span_view ps ++ map (λ y. y.span) (map name_view (x ∷ xs))
spans_more ps xs x = rw (map-append, append_assoc) refl
