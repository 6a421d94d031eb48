-- Words that are the same, taken together at the first of them.
use Rattle.std.proofs.Common.{◌≡◌, ℕ, zero, suc, ◌+◌, ◌<◌, ◌≤◌, ◌⊎◌, inl, inr, ⊎_elim, List, replicate, length, get_or, refl, sym, ◌∙◌, subst, arith}
use Rattle.std.proofs.lemmas.Bool.{cases_lt, cases_eq}
use Rattle.pat_grid_sums.specs.declared.shape.Shape.{Shape}
use Rattle.pat_grid_sums.specs.Sets.{Puts, AnyBefore}
use Rattle.pat_grid_sums.specs.Shapes.{Has, IsFirst, IsRowSum, IsAlikeSum, IsFirstSum}
use Rattle.pat_grid_sums.proofs.Putting.{puts_as, has_all, has_as}

-- one of the first m words is the first that is x, or none of them is
first_of : (ones : List ℕ) (x m : ℕ) → ((i : ℕ) × (i < m) × (get_or ones i 0 ≡ x) × IsFirst ones i) ⊎ ((i : ℕ) → i < m → get_or ones i 0 ≡ x → ⊥)
first_of ones x zero = inr (λ i l e. absurd (omega arith))
first_of ones x (suc m) =
    ⊎_elim
    (λ f. let l = f.1 in inl (f.0, omega arith, f.2, f.3))
    (λ none. ⊎_elim
    (λ same. inl (m, omega arith, same, λ j l e. none j l (e ∙ same)))
    (λ n. inr (λ i k e. ⊎_elim
    (λ (below : i < m). none i below e)
    (λ (past : m ≤ i). let at : i ≡ m = omega arith in absurd (n (subst (λ a. get_or ones a 0 ≡ x) at e)))
    (cases_lt i m)))
    (cases_eq (get_or ones m 0) x))
    (first_of ones x m)

first_alike : (ones : List ℕ) (j : ℕ) → (i : ℕ) × (i < j + 1) × (get_or ones i 0 ≡ get_or ones j 0) × IsFirst ones i
first_alike ones j =
    ⊎_elim
    (λ f. f)
    (λ none. absurd (none j (omega arith) refl))
    (first_of ones (get_or ones j 0) (j + 1))

-- with each first word all that are the same: so there are all
pub firsts_are_all : (s : Shape) (ones : List ℕ) (moved : List (List ℕ)) (sums : List ℕ) → Puts (AnyBefore (IsFirstSum ones moved s) (length ones)) (replicate s.words 0) sums → Has (AnyBefore (IsRowSum ones moved s) (length ones)) s.words sums
firsts_are_all s ones moved sums h =
    has_as (AnyBefore (IsFirstSum ones moved s) (length ones)) (AnyBefore (IsRowSum ones moved s) (length ones)) s.words sums
    (λ a q t. let own = t.2.1 in (own.0, own.1, own.2.1))
    (λ a q t.
    let f = first_alike ones t.0 in
    let l = f.1 in
    let k = t.1 in
    (f.0, omega arith, (f.3, (t.0, t.1, (sym f.2, t.2)))))
    (has_all (AnyBefore (IsFirstSum ones moved s) (length ones)) s.words sums h)

-- a word that is
pub are_first : (s : Shape) (ones : List ℕ) (moved : List (List ℕ)) (i : ℕ) (x y : List ℕ) → IsFirst ones i → Puts (AnyBefore (IsAlikeSum ones moved s i) (length ones)) x y → Puts (IsFirstSum ones moved s i) x y
are_first s ones moved i x y first h =
    puts_as (AnyBefore (IsAlikeSum ones moved s i) (length ones)) (IsFirstSum ones moved s i) x y (λ a q t. (first, t)) (λ a q t. t.1) h
