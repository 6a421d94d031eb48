-- The bound of an interface by the degrees of its right sides.
use Rattle.std.proofs.Common.{◌≡◌, ℕ, ◌+◌, ◌*◌, ◌^◌, ◌-◌, ◌<◌, ◌≤◌, ⊎_elim, true, false, ◌&&◌, List, [], ◌∷◌, length, map, min, drop, refl, sym, ap, ap₂, ◌∙◌, subst, arith}
use Rattle.std.specs.Prelude.{max, nat_le}
use Rattle.std.specs.List.{AllByRecursion, list_all}
use Rattle.std.proofs.Math.Nat.{pow-le-pow_right, pow-suc, pow-zero}
use Rattle.std.proofs.lemmas.List.{drop_all}
use Rattle.std.proofs.lemmas.Bool.{and_parts, and_from, cond-true, cond-false, cases_Bool, leb-true}
use Rattle.pat_words_spec.specs.Flats.{is_flat}
use Rattle.pat_words_spec.specs.Patterns.{Pat, Zero, One, Tag, Sum, Prod, Star, Var, is_closed}
use Rattle.pat_inclusion_spec.specs.Points.{grid_fits}
use Rattle.pat_inclusion_spec.specs.bounds.Assignments as bounds
use Rattle.pat_inclusion_spec.specs.bounds.Assignments.{Right, PatternRight, VarRight}
use Rattle.pat_infer_spec.specs.Constraints.{Constraint}
use Rattle.pat_infer_spec.specs.Shapes.{is_simple}
use Rattle.pat_solve_spec.specs.LowerBounds.{right_side, sides_of}
use Rattle.pat_solve_spec.specs.Assignments.{closed_rights, greatest_degree, bound_of, is_in_bounds}
use Rattle.pat_solve_bounds.specs.renumbered.Systems.{picked}
use Rattle.pat_solve_grids.specs.Rights.{right_is_flat, right_degree, all_flat, greatest}
use Rattle.pat_limits.specs.Limits.{most_points}

-- ---- right sides that are simple

pub closed_side : (f : Pat) → is_closed f ≡ true → right_side f ≡ PatternRight f
closed_side Zero h = refl
closed_side One h = refl
closed_side (Tag m) h = refl
closed_side (Sum e f) h = refl
closed_side (Prod e f) h = refl
closed_side (Star e) h = refl
closed_side (Var k) h = cc

pub open_side : (f : Pat) → is_simple f ≡ true → is_closed f ≡ false → (k : ℕ) × (right_side f ≡ VarRight k)
open_side Zero h o = cc
open_side One h o = cc
open_side (Tag m) h o = cc
open_side (Sum e f) h o = let clash : true ≡ false = sym h ∙ o in cc
open_side (Prod e f) h o = let clash : true ≡ false = sym h ∙ o in cc
open_side (Star e) h o = let clash : true ≡ false = sym h ∙ o in cc
open_side (Var k) h o = (k, refl)

-- ---- by the definition's lists

pub flats_same : (cs : List Constraint) → AllByRecursion (λ (c : Constraint). is_simple c.right ≡ true) cs → all_flat (map sides_of cs) ≡ list_all is_flat (closed_rights cs)
flats_same [] h = refl
flats_same (c ∷ cs) h =
    ⊎_elim
    (λ t.
    ap₂ (λ r more. right_is_flat r && more) (closed_side c.right t) (flats_same cs h.1)
    ∙ sym (ap (list_all is_flat) (cond-true (is_closed c.right) (c.right ∷ closed_rights cs) (closed_rights cs) t)))
    (λ f.
    let var = open_side c.right h.0 f in
    ap₂ (λ r more. right_is_flat r && more) var.1 (flats_same cs h.1)
    ∙ sym (ap (list_all is_flat) (cond-false (is_closed c.right) (c.right ∷ closed_rights cs) (closed_rights cs) f)))
    (cases_Bool (is_closed c.right))

pub degrees_same : (cs : List Constraint) → AllByRecursion (λ (c : Constraint). is_simple c.right ≡ true) cs → greatest (map sides_of cs) ≡ greatest_degree (closed_rights cs)
degrees_same [] h = refl
degrees_same (c ∷ cs) h =
    ⊎_elim
    (λ t.
    ap₂ (λ r more. max (right_degree r) more) (closed_side c.right t) (degrees_same cs h.1)
    ∙ sym (ap greatest_degree (cond-true (is_closed c.right) (c.right ∷ closed_rights cs) (closed_rights cs) t)))
    (λ f.
    let var = open_side c.right h.0 f in
    ap₂ (λ r more. max (right_degree r) more) var.1 (degrees_same cs h.1)
    ∙ none (greatest_degree (closed_rights cs))
    ∙ sym (ap greatest_degree (cond-false (is_closed c.right) (c.right ∷ closed_rights cs) (closed_rights cs) f)))
    (cases_Bool (is_closed c.right))
  where
    none : (a : ℕ) → max 0 a ≡ a
    none a = omega arith

-- ---- the bound

base_below : (x m : ℕ) → 1 ≤ m → 0 < x → x ≤ x ^ m
base_below x m s p =
    let least : x ^ 1 ≤ x ^ m = pow-le-pow_right {n = x} p {i = 1} {j = m} s in
    let times : 1 * x ≡ x = omega arith in
    let one : x ^ 1 ≡ x = pow-suc x 0 ∙ ap (λ y. y * x) (pow-zero x) ∙ times in
    omega (arith, least, one)

module _ (n : ℕ) (cs : List Constraint) (simple : AllByRecursion (λ (c : Constraint). is_simple c.right ≡ true) cs) where
  pub bound_small : (degree : ℕ) → degree ≡ min (greatest (map sides_of cs)) (2 ^ 32 - 1) → degree < 2 ^ 32 - 1 → degree + 1 ≡ bound_of cs
  bound_small degree e l = let same = degrees_same cs simple in omega arith

  pub in_bounds : (k : ℕ) → k ≡ bound_of cs → all_flat (map sides_of cs) ≡ true → grid_fits k n ≡ true → is_in_bounds n cs ≡ true
  in_bounds k e flat fits =
      and_from (list_all is_flat (closed_rights cs)) (grid_fits (bound_of cs) n) (sym (flats_same cs simple) ∙ flat) (subst (λ b. grid_fits b n ≡ true) e fits)

  pub not_flat : all_flat (map sides_of cs) ≡ false → is_in_bounds n cs ≡ true → ⊥
  not_flat f h =
      let t = (and_parts (list_all is_flat (closed_rights cs)) (grid_fits (bound_of cs) n) h).0 in
      let clash : true ≡ false = sym t ∙ sym (flats_same cs simple) ∙ f in
      cc

  pub not_fitting : (k : ℕ) → k ≡ bound_of cs → grid_fits k n ≡ false → is_in_bounds n cs ≡ true → ⊥
  not_fitting k e f h =
      let t = (and_parts (list_all is_flat (closed_rights cs)) (grid_fits (bound_of cs) n) h).1 in
      let clash : true ≡ false = sym t ∙ ap (λ b. grid_fits b n) (sym e) ∙ f in
      cc

  -- a degree of 2^32 - 1 or more is past all grids of one tag or more
  pub too_high : (degree : ℕ) → 1 ≤ n → degree ≡ min (greatest (map sides_of cs)) (2 ^ 32 - 1) → 2 ^ 32 - 1 ≤ degree → is_in_bounds n cs ≡ true → ⊥
  too_high degree some e l h =
      let t = (and_parts (list_all is_flat (closed_rights cs)) (grid_fits (bound_of cs) n) h).1 in
      let points = leb-true ((bound_of cs + 1) ^ n) most_points (and_parts (nat_le 1 (bound_of cs)) (nat_le ((bound_of cs + 1) ^ n) most_points) t).1 in
      let same = degrees_same cs simple in
      let base = base_below (bound_of cs + 1) n some (omega arith) in
      omega arith

-- ---- along the constraints

pub greatest_end : (zs : List bounds.Constraint) (ns : List ℕ) (i most all : ℕ) → length ns ≤ i → most < 2 ^ 32 → min (max most (greatest (picked zs (drop i ns)))) (2 ^ 32 - 1) ≡ all → most ≡ all
greatest_end zs ns i most all l fits h =
    let none : greatest (picked zs (drop i ns)) ≡ 0 = ap (λ ms. greatest (picked zs ms)) (drop_all i ns l) in
    omega (arith, fits, h, none)
