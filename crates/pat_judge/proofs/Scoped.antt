-- Where no rule is broken, what a line names is in scope.
use Rattle.std.proofs.Common.{◌≡◌, ℕ, suc, ◌+◌, ◌<◌, Bool, true, false, ◌&&◌, nat_eq, List, [], ◌∷◌, Option, Some, None, ⊎_elim, refl, sym, ap, ap₂, ◌∙◌, subst, arith}
use Rattle.std.specs.List.{list_all}
use Rattle.std.proofs.lemmas.Bool.{and_parts, cases_Bool, eqb-true, eqb-false}
use Rattle.pat_semantics_spec.specs.Programs.{Function, Node, Program, node_at, function_at}
use Rattle.pat_type_schemes_spec.specs.NodeTypes.{Needs}
use Rattle.pat_derivation_spec.specs.Derivations.{Line, Derivation, line_at}
use Rattle.pat_derivation_spec.specs.Conditions.{Place}
use Rattle.pat_derivation_spec.specs.Scopes.{is_in_scope}
use Rattle.pat_derivation_spec.specs.Rules.{is_named_well, has_shape}
use Rattle.pat_derivation_spec.specs.Validity.{Rule, ShapeRule, broken_or, broken_at, broken_in, broken_for, broken_rule}
use Rattle.pat_judge_nodes.specs.scopes.Upwards.{AreScopedBefore}

kept : (b : Bool) (rest : Option Rule) → None ≡ broken_or b ShapeRule rest → b ≡ true
kept true rest h = refl
kept false rest h = absurd (cc)

named_scoped : (p : Program) (d : Derivation) (n : ℕ) (needs : Needs) → list_all (is_named_well p d n) needs ≡ true → list_all (λ e. is_in_scope p n e.0) needs ≡ true
named_scoped p d n [] h = refl
named_scoped p d n (e ∷ es) h =
    let both = and_parts (is_named_well p d n e) (list_all (is_named_well p d n) es) h in
    let own = and_parts _ _ both.0 in
    ap₂ (λ a b. a && b) own.0 (named_scoped p d n es both.1)

in_shape : (p : Program) (d : Derivation) (h : Place) → has_shape p d h ≡ true → list_all (λ e. is_in_scope p h.number e.0) h.line.of.needs ≡ true
in_shape p d h shape =
    let kind = and_parts _ _ shape in
    let order = and_parts _ _ kind.1 in
    let names = and_parts _ _ order.1 in
    named_scoped p d h.number h.line.of.needs names.0

unbroken : (p : Program) (d : Derivation) (n : ℕ) (l : Line) → None ≡ broken_rule p d n → line_at d n ≡ Some l → list_all (λ e. is_in_scope p n e.0) l.of.needs ≡ true
unfolding broken_rule
unbroken p d n l none at = go (node_at p n) (none ∙ ap (broken_for p d n (node_at p n)) at)
  where
    within : (c : Node) (o : Option Function) → None ≡ broken_in p d n c o (Some l) → list_all (λ e. is_in_scope p n e.0) l.of.needs ≡ true
    within c None h = absurd (cc)
    within c (Some g) h =
        let there : Place = record { number = n; node = c; function = g; line = l } in
        in_shape p d there (kept (has_shape p d there) _ h)

    go : (o : Option Node) → None ≡ broken_for p d n o (Some l) → list_all (λ e. is_in_scope p n e.0) l.of.needs ≡ true
    go None h = absurd (cc)
    go (Some c) h = within c (function_at p c.function) h

pub scoped_at_start : (p : Program) (d : Derivation) → AreScopedBefore p d 0
scoped_at_start p d k l less at = absurd (omega arith)

pub scoped_next : (p : Program) (d : Derivation) (n : ℕ) → AreScopedBefore p d n → None ≡ broken_rule p d n → AreScopedBefore p d (n + 1)
scoped_next p d n before none k l less at =
    ⊎_elim
    (λ t. let same = eqb-true k n t in
    subst (λ j. list_all (λ e. is_in_scope p j e.0) l.of.needs ≡ true) (sym same)
    (unbroken p d n l none (subst (λ j. line_at d j ≡ Some l) same at)))
    (λ f. let other = eqb-false k n f in before k l (omega (arith, other)) at)
    (cases_Bool (nat_eq k n))
