-- A pattern as the simplifying forms make it stays so, and a variable that it doesn't have is replaced in vain.
use Rattle.std.proofs.Common.{◌≡◌, ℕ, zero, suc, false, ◌||◌, if◌then◌else◌, List, [], ◌∷◌, refl, ap, ◌∙◌}
use Rattle.std.specs.Prelude.{nat_eq, get_or}
use Rattle.std.specs.List.{AllByRecursion}
use Rattle.std.proofs.lemmas.Bool.{cond_both, cond-false, or_parts}
use Rattle.pat_words_spec.specs.Patterns.{Pat, Zero, One, Tag, Sum, Prod, Star, Var, is_zero, is_one, pat_eq, sum_of, prod_of, star_of, subst_of}
use Rattle.pat_solve_spec.specs.Assignments.{put_one, base_of, slope_of, solved_for, derivative}
use Rattle.pat_solve_bounded.specs.Variables.{has_var}
use Rattle.pat_solve_elimination.specs.Rounds.{IsRebuilt}

pub both : (make : Pat → Pat → Pat) (e f g h : Pat) → e ≡ g → f ≡ h → make e f ≡ make g h
both make e f g h p q = ap (λ x. make x f) p ∙ ap (make g) q

-- a variable that doesn't occur
pub absent : (k : ℕ) (v e : Pat) → has_var k e ≡ false → put_one k v e ≡ subst_of Var e
absent k v Zero h = refl
absent k v One h = refl
absent k v (Tag m) h = refl
absent k v (Var j) h = cond-false (nat_eq j k) v (Var j) h
absent k v (Star e) h = ap star_of (absent k v e h)
absent k v (Sum e f) h =
    let p = or_parts (has_var k e) (has_var k f) h in
    both sum_of (put_one k v e) (put_one k v f) (subst_of Var e) (subst_of Var f) (absent k v e p.0) (absent k v f p.1)
absent k v (Prod e f) h =
    let p = or_parts (has_var k e) (has_var k f) h in
    both prod_of (put_one k v e) (put_one k v f) (subst_of Var e) (subst_of Var f) (absent k v e p.0) (absent k v f p.1)

pub in_vain : (k : ℕ) (v e : Pat) → IsRebuilt e → has_var k e ≡ false → put_one k v e ≡ e
in_vain k v e r h = absent k v e h ∙ r

rebuilt_sum : (e f : Pat) → IsRebuilt e → IsRebuilt f → IsRebuilt (sum_of e f)
rebuilt_sum e f h k =
    cond_both (is_zero e) f (if is_zero f then e else if pat_eq e f then e else Sum e f) IsRebuilt
    (λ _. k)
    (λ a. cond_both (is_zero f) e (if pat_eq e f then e else Sum e f) IsRebuilt
    (λ _. h)
    (λ b. cond_both (pat_eq e f) e (Sum e f) IsRebuilt
    (λ _. h)
    (λ d. both sum_of (subst_of Var e) (subst_of Var f) e f h k ∙ rw (a, b, d) refl)))

rebuilt_prod : (e f : Pat) → IsRebuilt e → IsRebuilt f → IsRebuilt (prod_of e f)
rebuilt_prod e f h k =
    cond_both (is_zero e || is_zero f) Zero (if is_one e then f else if is_one f then e else Prod e f) IsRebuilt
    (λ _. refl)
    (λ a. cond_both (is_one e) f (if is_one f then e else Prod e f) IsRebuilt
    (λ _. k)
    (λ b. cond_both (is_one f) e (Prod e f) IsRebuilt
    (λ _. h)
    (λ d. both prod_of (subst_of Var e) (subst_of Var f) e f h k ∙ rw (a, b, d) refl)))

rebuilt_star : (e : Pat) → IsRebuilt e → IsRebuilt (star_of e)
rebuilt_star e h =
    cond_both (is_zero e || is_one e) One (Star e) IsRebuilt (λ _. refl) (λ a. ap star_of h ∙ rw a refl)

-- what is replaced by patterns that are rebuilt is rebuilt
pub rebuilt_all : (values : ℕ → Pat) → ((j : ℕ) → IsRebuilt (values j)) → (e : Pat) → IsRebuilt (subst_of values e)
rebuilt_all values r Zero = refl
rebuilt_all values r One = refl
rebuilt_all values r (Tag m) = refl
rebuilt_all values r (Var j) = r j
rebuilt_all values r (Star e) = rebuilt_star (subst_of values e) (rebuilt_all values r e)
rebuilt_all values r (Sum e f) = rebuilt_sum (subst_of values e) (subst_of values f) (rebuilt_all values r e) (rebuilt_all values r f)
rebuilt_all values r (Prod e f) = rebuilt_prod (subst_of values e) (subst_of values f) (rebuilt_all values r e) (rebuilt_all values r f)

pub rebuilt_one : (k : ℕ) (v f : Pat) → IsRebuilt v → IsRebuilt (put_one k v f)
rebuilt_one k v f r =
    rebuilt_all (λ j. if nat_eq j k then v else Var j) (λ j. cond_both (nat_eq j k) v (Var j) IsRebuilt (λ _. r) (λ _. refl)) f

pub rebuilt_solution : (k : ℕ) (f : Pat) → IsRebuilt (solved_for k f)
rebuilt_solution k f =
    let base : IsRebuilt (base_of k f) = rebuilt_one k Zero f refl in
    rebuilt_prod (star_of (slope_of k f)) (base_of k f)
    (rebuilt_star (slope_of k f) (rebuilt_one k (base_of k f) (derivative k f) base))
    base

-- each of some that all are rebuilt
pub all_at : (vs : List Pat) (i : ℕ) → AllByRecursion IsRebuilt vs → IsRebuilt (get_or vs i Zero)
all_at [] i h = refl
all_at (v ∷ vs) zero h = h.0
all_at (v ∷ vs) (suc i) h = all_at vs i h.1
