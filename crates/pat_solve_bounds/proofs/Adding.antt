-- The sum of the left sides with these numbers is the lower bound.
use Rattle.std.proofs.Common.{◌≡◌, ℕ, suc, ◌+◌, ◌<◌, Bool, true, false, if◌then◌else◌, List, [], ◌∷◌, length, Some, refl, sym, ap, ◌∙◌, subst, arith}
use Rattle.std.proofs.lemmas.Option.{slice_get_within}
use Rattle.std.specs.Prelude.{get_or, map}
use Rattle.pat_words_spec.specs.Patterns.{Pat, Zero, sum_of}
use Rattle.pat_inclusion_spec.specs.bounds.Assignments.{with_left, with_lefts, lower_of}
use Rattle.pat_patterns.specs.Views.{pattern_view}
use Rattle.pat_types.specs.Views.{right_view}
use Rattle.pat_types.specs.declared.types.Right.{Right}
use Rattle.pat_types.specs.declared.types.Right.TheVariants as right
use Rattle.pat_infer_problems.specs.declared.problem.Constraint.{Constraint}
use Rattle.pat_solve_bounded.specs.Limits.{within, sum_within}
use Rattle.pat_solve_bounded.proofs.Limited.{within_sum}
use Rattle.pat_solve_bounds.specs.lower_bounds.Rows.{numbers, is_key}
use Rattle.pat_solve_bounds.specs.lower_bounds.Sides.{form_side, sides_list, left_at}
use Rattle.pat_solve_bounds.specs.lower_bounds.Sums.{sum_all}
use Rattle.pat_solve_bounds.specs.lower_bounds.Indexes.{right_variable}
use Rattle.pat_solve_bounds.proofs.Numbering.{numbers_are}

abbrev bounds_var : ℕ → Constraint → Bool
bounds_var k c = is_key k (right_variable c.right)

one_left : (k : ℕ) (made e : Pat) (r : Right) → with_left k made e (form_side (right_view r)) ≡ (if is_key k (right_variable r) then sum_of made e else made)
one_left k made e (right.Var j) = refl
one_left k made e (right.Pattern f) = refl

sum_from : (ls : List Pat) (k n : ℕ) (made : Pat) (cs : List Constraint) → ((j : ℕ) → get_or ls (n + j) Zero ≡ get_or (map (λ c. pattern_view c.left) cs) j Zero) → sum_all (within made) (map (λ j. get_or ls j Zero) (numbers (bounds_var k) n cs)) ≡ within (with_lefts k made (sides_list cs))
sum_from ls k n made [] at = refl
sum_from ls k n made (c ∷ cs) at =
    go (bounds_var k c) (λ m. sum_from ls k (suc n) m cs next)
    ∙ ap (λ m. within (with_lefts k m (sides_list cs))) (sym (one_left k made (pattern_view c.left) c.right))
  where
    here : get_or ls n Zero ≡ pattern_view c.left
    here = subst (λ i. get_or ls i Zero ≡ pattern_view c.left) (let e : n + 0 ≡ n = omega arith in e) (at 0)

    next : (j : ℕ) → get_or ls (suc n + j) Zero ≡ get_or (map (λ d. pattern_view d.left) cs) j Zero
    next j = subst (λ i. get_or ls i Zero ≡ get_or (map (λ d. pattern_view d.left) cs) j Zero) (let e : n + suc j ≡ suc n + j = omega arith in e) (at (suc j))

    go : (b : Bool) → ((m : Pat) → sum_all (within m) (map (λ j. get_or ls j Zero) (numbers (bounds_var k) (suc n) cs)) ≡ within (with_lefts k m (sides_list cs))) → sum_all (within made) (map (λ j. get_or ls j Zero) (if b then n ∷ numbers (bounds_var k) (suc n) cs else numbers (bounds_var k) (suc n) cs)) ≡ within (with_lefts k (if b then sum_of made (pattern_view c.left) else made) (sides_list cs))
    go true later =
        ap (λ m. sum_all m (map (λ j. get_or ls j Zero) (numbers (bounds_var k) (suc n) cs)))
        (ap (λ e. sum_within (within made) (within e)) here ∙ sym (within_sum made (pattern_view c.left)))
        ∙ later (sum_of made (pattern_view c.left))
    go false later = later made

pub sum_is : (k : ℕ) (cs : List Constraint) (ns : List ℕ) → ns ≡ numbers (bounds_var k) 0 cs → sum_all (Some Zero) (map (left_at cs) ns) ≡ within (lower_of (sides_list cs) k)
sum_is k cs ns e =
    ap (λ ms. sum_all (Some Zero) (map (left_at cs) ms)) e
    ∙ sum_from (map (λ c. pattern_view c.left) cs) k 0 Zero cs (λ j. ap (λ i. get_or (map (λ (c : Constraint). pattern_view c.left) cs) i Zero) (let e : 0 + j ≡ j = omega arith in e))

pub lefts_within : (k : ℕ) (cs : List Constraint) (ns : List ℕ) → ns ≡ numbers (bounds_var k) 0 cs → (j : ℕ) → j < length ns → get_or ns j 0 < length cs
lefts_within k cs ns e j l =
    let n = numbers_are (bounds_var k) 0 cs j (subst (λ ms. j < length ms) e l) in
    let place : n.place < length cs = slice_get_within cs n.place n.item n.at in
    subst (λ ms. get_or ms j 0 < length cs) (sym e) (let m = n.number in omega arith)
