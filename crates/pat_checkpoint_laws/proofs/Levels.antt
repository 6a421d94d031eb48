-- A product of many patterns has few levels more than they have.
use Rattle.std.proofs.Common.{ℕ, zero, suc, ◌+◌, ◌≤◌, ◌||◌, if◌then◌else◌, List, [], ◌∷◌, length, arith}
use Rattle.std.specs.List.{AllByRecursion}
use Rattle.std.proofs.lemmas.Bool.{cond_both}
use Rattle.pat_words_spec.specs.Patterns.{Pat, Zero, Prod, is_zero, is_one, prod_of}
use Rattle.pat_words_spec.specs.Sizes.{levels_of}
use Rattle.pat_checkpoint_spec.specs.Balances.{paired, joined_within, product_of, powers}

prod_levels : (m : ℕ) (e f : Pat) → 1 ≤ m → levels_of e ≤ m → levels_of f ≤ m → levels_of (prod_of e f) ≤ m + 1
prod_levels m e f some a b =
    cond_both (is_zero e || is_zero f) Zero (if is_one e then f else if is_one f then e else Prod e f) (λ x. levels_of x ≤ m + 1)
    (λ _. omega arith)
    (λ _. cond_both (is_one e) f (if is_one f then e else Prod e f) (λ x. levels_of x ≤ m + 1)
    (λ _. omega arith)
    (λ _. cond_both (is_one f) e (Prod e f) (λ x. levels_of x ≤ m + 1) (λ _. omega arith) (λ _. omega arith)))

paired_levels : (m : ℕ) (es : List Pat) → 1 ≤ m → AllByRecursion (λ e. levels_of e ≤ m) es → AllByRecursion (λ e. levels_of e ≤ m + 1) (paired es)
paired_levels m [] some a = tt
paired_levels m (e ∷ []) some a = (let h = a.0 in omega arith, tt)
paired_levels m (e ∷ f ∷ rest) some a = (prod_levels m e f some a.0 a.1.0, paired_levels m rest some a.1.1)

paired_shorter : (k : ℕ) (es : List Pat) → length es ≤ k + k → length (paired es) ≤ k
paired_shorter k [] h = omega arith
paired_shorter k (e ∷ []) h = omega arith
paired_shorter zero (e ∷ f ∷ rest) h = absurd (omega arith)
paired_shorter (suc k) (e ∷ f ∷ rest) h = let r = paired_shorter k rest (omega arith) in omega arith

-- no more than r levels more, for at most so many patterns as r doublings give
joined_levels : (r n m : ℕ) (es : List Pat) → length es ≤ powers r → r ≤ n → 1 ≤ m → AllByRecursion (λ e. levels_of e ≤ m) es → levels_of (joined_within n es) ≤ m + r
joined_levels r zero m [] few more some a = omega arith
joined_levels r (suc n) m [] few more some a = omega arith
joined_levels r zero m (e ∷ []) few more some a = let h = a.0 in omega arith
joined_levels r (suc n) m (e ∷ []) few more some a = let h = a.0 in omega arith
joined_levels zero zero m (e ∷ f ∷ rest) few more some a = absurd (omega arith)
joined_levels (suc r) zero m (e ∷ f ∷ rest) few more some a = absurd (omega arith)
joined_levels zero (suc n) m (e ∷ f ∷ rest) few more some a = absurd (omega arith)
joined_levels (suc r) (suc n) m (e ∷ f ∷ rest) few more some a =
    let shorter = paired_shorter (powers r) (e ∷ f ∷ rest) few in
    let deep = joined_levels r n (m + 1) (paired (e ∷ f ∷ rest)) shorter (omega arith) (omega arith) (paired_levels m (e ∷ f ∷ rest) some a) in
    omega arith

pub product_levels : (r m : ℕ) (es : List Pat) → length es ≤ powers r → r ≤ length es → 1 ≤ m → AllByRecursion (λ e. levels_of e ≤ m) es → levels_of (product_of es) ≤ m + r
product_levels r m es few more some a = joined_levels r (length es) m es few more some a
