-- What the lines of the nodes above name.
use Rattle.std.proofs.Common.{◌≡◌, ℕ, zero, suc, ◌+◌, ◌<◌, Bool, true, false, ◌||◌, ◌&&◌, nat_eq, List, [], ◌∷◌, map, length, get_or, option_map, Option, Some, None, refl, sym, ap, ap₂, ◌∙◌, subst, arith}
use Rattle.std.specs.Prelude.{slice_get, if◌then◌else◌}
use Rattle.std.specs.List.{list_all}
use Rattle.std.specs.Map.{keys_of}
use Rattle.std.proofs.Math.Bool.{or-true}
use Rattle.std.proofs.lemmas.Bool.{and_parts, eqb-true}
use Rattle.std.proofs.lemmas.Option.{slice_get-map}
use Rattle.pat_semantics_spec.specs.Programs.{Node, Program, node_at, parts, is_among}
use Rattle.pat_semantics_spec.specs.WellFormed.{WellFormed}
use Rattle.pat_type_schemes_spec.specs.NodeTypes.{Needs}
use Rattle.pat_derivation_laws.specs.Laws.{ScopeOfPart}
use Rattle.pat_derivation_spec.specs.Derivations.{Line, Derivation, line_at}
use Rattle.pat_derivation_spec.specs.Scopes.{bound_in, above_from, node_above, is_in_scope}
use Rattle.pat_types.specs.declared.types.MailboxType.{MailboxType}
use Rattle.pat_types.specs.Views.{need_view, needs_view}
use Rattle.pat_derivations.specs.declared.data.DerivedNode.{DerivedNode}
use Rattle.pat_derivations.specs.Views.{line_view, lines_view}
use Rattle.pat_judge_nodes.specs.scopes.Upwards.{AreScopedBefore}

-- the node above is one that the number is a part of
part_of : (j : ℕ) (ds : List Node) (m k : ℕ) → above_from j ds m ≡ Some k → (i : ℕ) × (c : Node) × (slice_get ds i ≡ Some c) × (k ≡ j + i) × (is_among m (parts c.core) ≡ true)
part_of j [] m k h = absurd (cc)
part_of j (d ∷ ds) m k h =
    (elim (is_among m (parts d.core)) as (λ b. is_among m (parts d.core) ≡ b → (if b then Some j else above_from (suc j) ds m) ≡ Some k → (i : ℕ) × (c : Node) × (slice_get (d ∷ ds) i ≡ Some c) × (k ≡ j + i) × (is_among m (parts c.core) ≡ true)) [
      | true ↦ λ e q. (0, d, refl, here j k q, e)
      | false ↦ λ e q. let r = part_of (suc j) ds m k q in let l = r.3 in (suc r.0, r.1, r.2, omega arith, r.4)
    ]) refl h
  where
    here : (j k : ℕ) → Some j ≡ Some k → k ≡ j + 0
    here j k q = let same : j ≡ k = cc in omega arith

module _ (p : Program) (w : WellFormed p) (law : ScopeOfPart) where
  scoped_below : (n k x : ℕ) → node_above p n ≡ Some k → is_in_scope p k x ≡ true → is_in_scope p n x ≡ true
  scoped_below n k x above there =
      let r = part_of 0 p.nodes n k above in
      let same : r.0 ≡ k = let e = r.3 in omega arith in
      let at : node_at p k ≡ Some r.1 = subst (λ i. slice_get p.nodes i ≡ Some r.1) same r.2 in
      law p k n r.1 x w at r.4
      ∙ ap (λ b. is_among x (bound_in n (Some r.1.core)) || b) there
      ∙ or-true (is_among x (bound_in n (Some r.1.core)))

  before : (n k : ℕ) → node_above p n ≡ Some k → k < n
  before n k above =
      let r = part_of 0 p.nodes n k above in
      let e = r.3 in
      let l = ((w.nodes r.0 r.1 r.2).parts_after n r.4).0 in
      omega (arith, e, l)

  all_below : (n k : ℕ) → node_above p n ≡ Some k → (needs : Needs) → list_all (λ e. is_in_scope p k e.0) needs ≡ true → list_all (λ e. is_in_scope p n e.0) needs ≡ true
  all_below n k above [] h = refl
  all_below n k above (e ∷ es) h =
      let both = and_parts (is_in_scope p k e.0) (list_all (λ x. is_in_scope p k x.0) es) h in
      ap₂ (λ a b. a && b) (scoped_below n k e.0 above both.0) (all_below n k above es both.1)

  -- what the line of the node above names is in scope
  pub line_scoped : (d : Derivation) (n k : ℕ) (l : Line) → AreScopedBefore p d n → node_above p n ≡ Some k → line_at d k ≡ Some l → list_all (λ e. is_in_scope p n e.0) l.of.needs ≡ true
  line_scoped d n k l scoped above at = all_below n k above l.of.needs (scoped k l (before n k above) at)

pub line_get : (ds : List DerivedNode) (k : ℕ) → slice_get (lines_view ds) k ≡ option_map line_view (slice_get ds k)
line_get ds k = slice_get-map line_view ds k

-- a name in a list of which all are in scope
pub scoped_if_named : (p : Program) (n x : ℕ) (needs : Needs) → list_all (λ e. is_in_scope p n e.0) needs ≡ true → is_among x (keys_of needs) ≡ true → is_in_scope p n x ≡ true
scoped_if_named p n x [] h a = absurd (cc)
scoped_if_named p n x (e ∷ es) h a =
    let both = and_parts (is_in_scope p n e.0) (list_all (λ y. is_in_scope p n y.0) es) h in
    (elim (nat_eq x e.0) as (λ b. nat_eq x e.0 ≡ b → (b || is_among x (keys_of es)) ≡ true → is_in_scope p n x ≡ true) [
      | true ↦ λ q u. ap (is_in_scope p n) (eqb-true x e.0 q) ∙ both.0
      | false ↦ λ q u. scoped_if_named p n x es both.1 u
    ]) refl a

-- the name at a place is named
pub named_at : (env : List (ℕ × MailboxType)) (i x : ℕ) (d : ℕ × MailboxType) → i < length env → (get_or env i d).0 ≡ x → is_among x (keys_of (needs_view env)) ≡ true
named_at [] i x d l e = absurd (omega arith)
named_at (a ∷ as') zero x d l e = ap (λ b. b || is_among x (keys_of (needs_view as'))) (eq_true x a.0 (sym e))
  where
    eq_true : (m n : ℕ) → m ≡ n → nat_eq m n ≡ true
    eq_true m n q = search (arith, q)
named_at (a ∷ as') (suc i) x d l e =
    ap (λ b. nat_eq x a.0 || b) (named_at as' i x d (omega arith) e) ∙ or-true (nat_eq x a.0)
