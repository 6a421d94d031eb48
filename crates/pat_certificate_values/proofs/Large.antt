-- Sums, products and stars of large parts are large, but for products with 0.
use Rattle.std.proofs.Common.{◌≡◌, ℕ, zero, suc, ◌+◌, ◌≤◌, ◌<◌, Bool, true, false, ◌||◌, refl, sym, ap, ◌∙◌, subst, ⊎_elim, arith}
use Rattle.std.specs.Prelude.{if◌then◌else◌}
use Rattle.std.proofs.lemmas.Bool.{cond_both, cond-true, cond-false, or_cases, or_left, or_right}
use Rattle.pat_words_spec.specs.Patterns.{Pat, Zero, One, Tag, Sum, Prod, Star, Var, pat_eq, is_zero, is_one, sum_of, prod_of, star_of}
use Rattle.pat_words_spec.specs.Sizes.{size_of}
use Rattle.pat_words_laws.proofs.FormLaws.{pat_eq_refl}
use Rattle.pat_words_laws.proofs.PatternLaws.{is_zero_same, is_one_same, pat_eq_same}
use Rattle.pat_limits.specs.Limits.{most_nodes}

zero_small : (e : Pat) → is_zero e ≡ true → size_of e ≡ 1
zero_small e z = ap size_of (is_zero_same e z)

one_small : (e : Pat) → is_one e ≡ true → size_of e ≡ 1
one_small e z = ap size_of (is_one_same e z)

pub large_left : (e f : Pat) → most_nodes < size_of e → most_nodes < size_of (sum_of e f)
large_left e f l =
    cond_both (is_zero e) f (if is_zero f then e else if pat_eq e f then e else Sum e f) (λ x. most_nodes < size_of x)
    (λ z. let q = zero_small e z in absurd (omega arith))
    (λ _. cond_both (is_zero f) e (if pat_eq e f then e else Sum e f) (λ x. most_nodes < size_of x)
    (λ _. l)
    (λ _. cond_both (pat_eq e f) e (Sum e f) (λ x. most_nodes < size_of x) (λ _. l) (λ _. omega arith)))

pub large_right : (e f : Pat) → most_nodes < size_of f → most_nodes < size_of (sum_of e f)
large_right e f l =
    cond_both (is_zero e) f (if is_zero f then e else if pat_eq e f then e else Sum e f) (λ x. most_nodes < size_of x)
    (λ _. l)
    (λ _. cond_both (is_zero f) e (if pat_eq e f then e else Sum e f) (λ x. most_nodes < size_of x)
    (λ z. let q = zero_small f z in absurd (omega arith))
    (λ _. cond_both (pat_eq e f) e (Sum e f) (λ x. most_nodes < size_of x)
    (λ s. let q = ap size_of (pat_eq_same e f s) in omega arith)
    (λ _. omega arith)))

pub product_left : (e f : Pat) → most_nodes < size_of e → is_zero f ≡ false → most_nodes < size_of (prod_of e f)
product_left e f l n =
    cond_both (is_zero e || is_zero f) Zero (if is_one e then f else if is_one f then e else Prod e f) (λ x. most_nodes < size_of x)
    (λ z. ⊎_elim (λ a. let q = zero_small e a in absurd (omega arith)) (λ b. absurd (cc)) (or_cases (is_zero e) (is_zero f) z))
    (λ _. cond_both (is_one e) f (if is_one f then e else Prod e f) (λ x. most_nodes < size_of x)
    (λ z. let q = one_small e z in absurd (omega arith))
    (λ _. cond_both (is_one f) e (Prod e f) (λ x. most_nodes < size_of x) (λ _. l) (λ _. omega arith)))

pub product_right : (e f : Pat) → most_nodes < size_of f → is_zero e ≡ false → most_nodes < size_of (prod_of e f)
product_right e f l n =
    cond_both (is_zero e || is_zero f) Zero (if is_one e then f else if is_one f then e else Prod e f) (λ x. most_nodes < size_of x)
    (λ z. ⊎_elim (λ a. absurd (cc)) (λ b. let q = zero_small f b in absurd (omega arith)) (or_cases (is_zero e) (is_zero f) z))
    (λ _. cond_both (is_one e) f (if is_one f then e else Prod e f) (λ x. most_nodes < size_of x)
    (λ _. l)
    (λ _. cond_both (is_one f) e (Prod e f) (λ x. most_nodes < size_of x)
    (λ z. let q = one_small f z in absurd (omega arith))
    (λ _. omega arith)))

pub large_star : (e : Pat) → most_nodes < size_of e → most_nodes < size_of (star_of e)
large_star e l =
    cond_both (is_zero e || is_one e) One (Star e) (λ x. most_nodes < size_of x)
    (λ z. ⊎_elim (λ a. let q = zero_small e a in absurd (omega arith)) (λ b. let q = one_small e b in absurd (omega arith)) (or_cases (is_zero e) (is_one e) z))
    (λ _. omega arith)

-- ---- what the forms are, by the tests

pub zero_sum : (e f : Pat) → is_zero e ≡ true → sum_of e f ≡ f
zero_sum e f z = cond-true (is_zero e) f (if is_zero f then e else if pat_eq e f then e else Sum e f) z

pub sum_zero : (e f : Pat) → is_zero e ≡ false → is_zero f ≡ true → sum_of e f ≡ e
sum_zero e f n z =
    cond-false (is_zero e) f (if is_zero f then e else if pat_eq e f then e else Sum e f) n
    ∙ cond-true (is_zero f) e (if pat_eq e f then e else Sum e f) z

pub sum_other : (e f : Pat) → is_zero e ≡ false → is_zero f ≡ false → sum_of e f ≡ (if pat_eq e f then e else Sum e f)
sum_other e f n m =
    cond-false (is_zero e) f (if is_zero f then e else if pat_eq e f then e else Sum e f) n
    ∙ cond-false (is_zero f) e (if pat_eq e f then e else Sum e f) m

pub sum_same : (e f : Pat) → is_zero e ≡ false → is_zero f ≡ false → e ≡ f → sum_of e f ≡ e
sum_same e f n m same =
    sum_other e f n m ∙ cond_both (pat_eq e f) e (Sum e f) (λ x. x ≡ e) (λ _. refl) (λ d. let q = sym d ∙ ap (pat_eq e) (sym same) ∙ pat_eq_refl e in absurd (cc))

pub sum_differ : (e f : Pat) → is_zero e ≡ false → is_zero f ≡ false → (e ≡ f → ⊥) → sum_of e f ≡ Sum e f
sum_differ e f n m d =
    sum_other e f n m ∙ cond_both (pat_eq e f) e (Sum e f) (λ x. x ≡ Sum e f) (λ s. absurd (d (pat_eq_same e f s))) (λ _. refl)

-- ---- products

zero_product : (e f : Pat) → (is_zero e || is_zero f) ≡ true → prod_of e f ≡ Zero
zero_product e f z = cond-true (is_zero e || is_zero f) Zero (if is_one e then f else if is_one f then e else Prod e f) z

pub product_zero_left : (e f : Pat) → is_zero e ≡ true → prod_of e f ≡ Zero
product_zero_left e f z = zero_product e f (ap (λ b. b || is_zero f) z)

pub product_zero_right : (e f : Pat) → is_zero f ≡ true → prod_of e f ≡ Zero
product_zero_right e f z = zero_product e f (or_right (is_zero e) (is_zero f) z)

other_product : (e f : Pat) → is_zero e ≡ false → is_zero f ≡ false → prod_of e f ≡ (if is_one e then f else if is_one f then e else Prod e f)
other_product e f n m =
    cond-false (is_zero e || is_zero f) Zero (if is_one e then f else if is_one f then e else Prod e f) (ap (λ b. b || is_zero f) n ∙ m)

pub product_one_left : (e f : Pat) → is_zero e ≡ false → is_zero f ≡ false → is_one e ≡ true → prod_of e f ≡ f
product_one_left e f n m o = other_product e f n m ∙ cond-true (is_one e) f (if is_one f then e else Prod e f) o

pub product_one_right : (e f : Pat) → is_zero e ≡ false → is_zero f ≡ false → is_one e ≡ false → is_one f ≡ true → prod_of e f ≡ e
product_one_right e f n m a o =
    other_product e f n m ∙ cond-false (is_one e) f (if is_one f then e else Prod e f) a ∙ cond-true (is_one f) e (Prod e f) o

pub product_other : (e f : Pat) → is_zero e ≡ false → is_zero f ≡ false → is_one e ≡ false → is_one f ≡ false → prod_of e f ≡ Prod e f
product_other e f n m a b =
    other_product e f n m ∙ cond-false (is_one e) f (if is_one f then e else Prod e f) a ∙ cond-false (is_one f) e (Prod e f) b

-- a product with a side that is too large is 0 or too large
pub beside_large : (e f : Pat) → most_nodes < size_of e → is_zero f ≡ false → (most_nodes < size_of (prod_of e f)) × (most_nodes < size_of (prod_of f e))
beside_large e f l n = (product_left e f l n, product_right f e l n)

-- ---- stars

pub star_flat : (e : Pat) → (is_zero e || is_one e) ≡ true → star_of e ≡ One
star_flat e z = cond-true (is_zero e || is_one e) One (Star e) z

pub star_other : (e : Pat) → (is_zero e || is_one e) ≡ false → star_of e ≡ Star e
star_other e z = cond-false (is_zero e || is_one e) One (Star e) z
