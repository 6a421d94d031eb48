-- Points ascend as their numbers do.
use Rattle.std.proofs.Common.{◌≡◌, ℕ, zero, suc, ◌+◌, ◌*◌, ◌<◌, ◌≤◌, true, List, [], ◌∷◌, ◌↔◌, inl, inr, ⊎_elim, refl, ap, ◌∙◌, arith, ◌⊎◌, mul-le-mul_right, suc-mul, mul-one, zero-mul}
use Rattle.std.specs.Prelude.{◌&&◌, nat_eq, nat_lt, nat_le}
use Rattle.std.specs.List.{list_any}
use Rattle.std.proofs.lemmas.Bool.{and_parts, and_from, or_cases, or_left, or_right, cases_lt, ltb-true, leb-true, lt-ltb, eqb-true, eq-eqb}
use Rattle.std.proofs.Math.Nat.{pow-zero, pow-suc, add-mul, mul_assoc}
use Rattle.pat_words_spec.specs.Words.{Word}
use Rattle.pat_inclusion_spec.specs.Counts.{counted}
use Rattle.pat_inclusion_spec.specs.Points.{point_fits, comes_before}
use Rattle.pat_inclusion_spec.specs.bounds.Numbers.{points_in, number_of}
use Rattle.pat_inclusion_laws.proofs.NumberLaws.{number_below}

-- the counts without that of the first tag
abbrev rest : Word → Word
rest u t = u (suc t)

-- the count of the first tag is the highest digit
first_digit : (k n : ℕ) (u : Word) → number_of k (suc n) u ≡ u 0 * points_in k n + number_of k n (rest u)
first_digit k zero u =
    let power : points_in k 0 ≡ 1 = pow-zero (k + 1) in
    let a : u 0 * points_in k 0 ≡ u 0 = ap (λ x. u 0 * x) power ∙ mul-one (u 0) in
    let b : 0 * (k + 1) ≡ 0 = zero-mul (k + 1) in
    omega arith
first_digit k (suc n) u =
    let before = ap (λ x. x * (k + 1)) (first_digit k n u) in
    let apart = add-mul (u 0 * points_in k n) (number_of k n (rest u)) (k + 1) in
    let turned = mul_assoc (u 0) (points_in k n) (k + 1) in
    let power : u 0 * points_in k (suc n) ≡ u 0 * (points_in k n * (k + 1)) = ap (λ x. u 0 * x) (pow-suc (k + 1) n) in
    omega arith

-- a number of two digits is less where the first is, or where that is the same and the second is
abbrev Lower : ℕ → ℕ → ℕ → ℕ → Type 0
Lower c d x y = (c < d) ⊎ ((c ≡ d) × (x < y))

lower_less : (p c d x y : ℕ) → x < p → Lower c d x y → c * p + x < d * p + y
lower_less p c d x y l h =
    ⊎_elim
    (λ less.
    let grown : suc c * p ≤ d * p = mul-le-mul_right p less in
    let more = suc-mul c p in
    omega arith)
    (λ e. let same : c * p ≡ d * p = ap (λ z. z * p) e.0 in let less = e.1 in omega arith)
    h

less_lower : (p c d x y : ℕ) → y < p → c * p + x < d * p + y → Lower c d x y
less_lower p c d x y l h =
    ⊎_elim
    (λ less. inl less)
    (λ ge. ⊎_elim
    (λ greater.
    let grown : suc d * p ≤ c * p = mul-le-mul_right p greater in
    let more = suc-mul d p in
    absurd (omega arith))
    (λ le. let e : c ≡ d = omega arith in let same : c * p ≡ d * p = ap (λ z. z * p) e in inr (e, omega arith))
    (cases_lt d c))
    (cases_lt c d)

-- ---- points

counts_small : (k n : ℕ) (cs : List ℕ) → point_fits k n cs ≡ true → (t : ℕ) → counted cs t ≤ k
counts_small k n [] h t = omega arith
counts_small k zero (c ∷ cs) h zero = let e = eqb-true c 0 (and_parts (nat_eq c 0) (point_fits k zero cs) h).0 in omega arith
counts_small k zero (c ∷ cs) h (suc t) = counts_small k zero cs (and_parts (nat_eq c 0) (point_fits k zero cs) h).1 t
counts_small k (suc n) (c ∷ cs) h zero = leb-true c k (and_parts (nat_le c k) (point_fits k n cs) h).0
counts_small k (suc n) (c ∷ cs) h (suc t) = counts_small k n cs (and_parts (nat_le c k) (point_fits k n cs) h).1 t

small : (k n m : ℕ) (cs : List ℕ) → point_fits k m cs ≡ true → number_of k n (counted cs) < points_in k n
small k n m cs h = number_below k n (counted cs) (counts_small k m cs h)

number_none : (k n : ℕ) → number_of k n (counted []) ≡ 0
number_none k zero = refl
number_none k (suc n) =
    let e = ap (λ x. x * (k + 1)) (number_none k n) in
    let z = zero-mul (k + 1) in
    omega arith

none_before : (k : ℕ) (ds : List ℕ) → point_fits k zero ds ≡ true → list_any (nat_lt 0) ds ≡ true → ⊥
none_before k [] h b = cc
none_before k (d ∷ ds) h b =
    let both = and_parts (nat_eq d 0) (point_fits k zero ds) h in
    let e = eqb-true d 0 both.0 in
    ⊎_elim (λ l. let m = ltb-true 0 d l in absurd (omega arith)) (λ r. none_before k ds both.1 r) (or_cases (nat_lt 0 d) (list_any (nat_lt 0) ds) b)

zeros_before : (k : ℕ) (cs ds : List ℕ) → point_fits k zero cs ≡ true → point_fits k zero ds ≡ true → comes_before cs ds ≡ true → ⊥
zeros_before k [] ds hc hd b = none_before k ds hd b
zeros_before k (c ∷ cs) [] hc hd b = cc
zeros_before k (c ∷ cs) (d ∷ ds) hc hd b =
    let pc = and_parts (nat_eq c 0) (point_fits k zero cs) hc in
    let pd = and_parts (nat_eq d 0) (point_fits k zero ds) hd in
    let ec = eqb-true c 0 pc.0 in
    let ed = eqb-true d 0 pd.0 in
    ⊎_elim
    (λ l. let m = ltb-true c d l in absurd (omega arith))
    (λ r. zeros_before k cs ds pc.1 pd.1 (and_parts (nat_eq c d) (comes_before cs ds) r).1)
    (or_cases (nat_lt c d) (nat_eq c d && comes_before cs ds) b)

-- by the first digits
by_digits : (k n : ℕ) (u v : Word) → Lower (u 0) (v 0) (number_of k n (rest u)) (number_of k n (rest v)) → number_of k n (rest u) < points_in k n → number_of k (suc n) u < number_of k (suc n) v
by_digits k n u v h l =
    let a = first_digit k n u in
    let b = first_digit k n v in
    let c = lower_less (points_in k n) (u 0) (v 0) (number_of k n (rest u)) (number_of k n (rest v)) l h in
    omega arith

to_digits : (k n : ℕ) (u v : Word) → number_of k n (rest v) < points_in k n → number_of k (suc n) u < number_of k (suc n) v → Lower (u 0) (v 0) (number_of k n (rest u)) (number_of k n (rest v))
to_digits k n u v l h =
    let a = first_digit k n u in
    let b = first_digit k n v in
    less_lower (points_in k n) (u 0) (v 0) (number_of k n (rest u)) (number_of k n (rest v)) l (omega arith)

pub number_order : (k n : ℕ) (cs ds : List ℕ) → point_fits k n cs ≡ true → point_fits k n ds ≡ true → (comes_before cs ds ≡ true) ↔ (number_of k n (counted cs) < number_of k n (counted ds))
number_order k zero cs ds hc hd = (λ b. absurd (zeros_before k cs ds hc hd b), λ l. absurd (omega arith))
number_order k (suc n) [] [] hc hd = (λ b. cc, λ l. absurd (omega arith))
number_order k (suc n) [] (d ∷ ds) hc hd =
    let pd = and_parts (nat_le d k) (point_fits k n ds) hd in
    let more = number_order k n [] ds refl pd.1 in (
      λ b. by_digits k n (counted []) (counted (d ∷ ds))
          (⊎_elim
          (λ l. inl (ltb-true 0 d l))
          (λ r. ⊎_elim (λ z. inr (omega arith, more.0 r)) (λ p. inl p) (cases_lt d 1))
          (or_cases (nat_lt 0 d) (list_any (nat_lt 0) ds) b))
          (small k n n [] refl),
      λ l. ⊎_elim
          (λ less. or_left (nat_lt 0 d) (list_any (nat_lt 0) ds) (lt-ltb 0 d less))
          (λ e. or_right (nat_lt 0 d) (list_any (nat_lt 0) ds) (more.1 e.1))
          (to_digits k n (counted []) (counted (d ∷ ds)) (small k n n ds pd.1) l),
    )
number_order k (suc n) (c ∷ cs) [] hc hd = (λ b. cc, λ l. let z = number_none k (suc n) in absurd (omega arith))
number_order k (suc n) (c ∷ cs) (d ∷ ds) hc hd =
    let pc = and_parts (nat_le c k) (point_fits k n cs) hc in
    let pd = and_parts (nat_le d k) (point_fits k n ds) hd in
    let more = number_order k n cs ds pc.1 pd.1 in (
      λ b. by_digits k n (counted (c ∷ cs)) (counted (d ∷ ds))
          (⊎_elim
          (λ l. inl (ltb-true c d l))
          (λ r. let both = and_parts (nat_eq c d) (comes_before cs ds) r in inr (eqb-true c d both.0, more.0 both.1))
          (or_cases (nat_lt c d) (nat_eq c d && comes_before cs ds) b))
          (small k n n cs pc.1),
      λ l. ⊎_elim
          (λ less. or_left (nat_lt c d) (nat_eq c d && comes_before cs ds) (lt-ltb c d less))
          (λ e. or_right (nat_lt c d) (nat_eq c d && comes_before cs ds) (and_from (nat_eq c d) (comes_before cs ds) (eq-eqb c d e.0) (more.1 e.1)))
          (to_digits k n (counted (c ∷ cs)) (counted (d ∷ ds)) (small k n n ds pd.1) l),
    )
