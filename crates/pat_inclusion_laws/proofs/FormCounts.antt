-- How large the counts of a closed form may become: stars multiply them, but then make so many sets that few more stars can follow.
use Rattle.std.proofs.Common.{◌≡◌, ℕ, zero, suc, ◌+◌, ◌-◌, ◌*◌, ◌≤◌, max, true, false, ◌&&◌, ◌||◌, nat_eq, List, [], ◌∷◌, ◌++◌, length, map, ⊎_elim, refl, sym, ap, ◌∙◌, subst, arith, mul-le-mul, add-mul, suc-mul, mul-suc, one-mul, zero-mul, mul-zero, le_refl, mul_left_comm}
use Rattle.std.specs.Prelude.{nat_le, ◌^◌}
use Rattle.std.specs.List.{AllByRecursion}
use Rattle.std.proofs.lemmas.Bool.{and_parts, or_parts, cond_both, cases_lt, leb-true, or_cases}
use Rattle.pat_words_spec.specs.Words.{Word, no_word}
use Rattle.pat_words_spec.specs.Patterns.{Pat, Zero, One, Tag, Sum, Prod, Star, Var}
use Rattle.pat_words_spec.specs.Sizes.{size_of, levels_of}
use Rattle.pat_inclusion_spec.specs.Counts.{is_empty_below, has_word}
use Rattle.pat_inclusion_spec.specs.LinearSets.{LinearSet, linear_set, WordWithin, SetWithin, SetsWithin}
use Rattle.pat_inclusion_spec.specs.ClosedForms.{add_period, add_periods, set_product, products, only_empty, star_by, set_star, times_stars, sets_of, is_short, stars_are_short, lists_are_short, is_small, SetsClean}
use Rattle.pat_limits.specs.Limits.{most_levels, most_nodes, most_sets}

-- ---- bounds

within_more : (c d : ℕ) (u : Word) → c ≤ d → WordWithin c u → WordWithin d u
within_more c d u l h t = let k = h t in omega arith

all_within : (c d : ℕ) (ps : List Word) → c ≤ d → AllByRecursion (WordWithin c) ps → AllByRecursion (WordWithin d) ps
all_within c d [] l h = tt
all_within c d (p ∷ ps) l h = (within_more c d p l h.0, all_within c d ps l h.1)

sets_more : (x c y d : ℕ) (ss : List LinearSet) → x ≤ y → c ≤ d → SetsWithin x c ss → SetsWithin y d ss
sets_more x c y d [] l m h = tt
sets_more x c y d (s ∷ ss) l m h =
    ((within_more x y s.base l h.0.0, all_within c d s.periods m h.0.1), sets_more x c y d ss l m h.1)

sets_join : (x c : ℕ) (xs ys : List LinearSet) → SetsWithin x c xs → SetsWithin x c ys → SetsWithin x c (xs ++ ys)
sets_join x c [] ys a b = b
sets_join x c (s ∷ xs) ys a b = (a.0, sets_join x c xs ys a.1 b)

within_append : (c : ℕ) (ps : List Word) (p : Word) → AllByRecursion (WordWithin c) ps → WordWithin c p → AllByRecursion (WordWithin c) (ps ++ p ∷ [])
within_append c [] p a b = (b, tt)
within_append c (q ∷ ps) p a b = (a.0, within_append c ps p a.1 b)

add_within : (n c : ℕ) (ps : List Word) (p : Word) → AllByRecursion (WordWithin c) ps → WordWithin c p → AllByRecursion (WordWithin c) (add_period n ps p)
add_within n c ps p a b =
    cond_both (is_empty_below n p || has_word n ps p) ps (ps ++ p ∷ []) (AllByRecursion (WordWithin c)) (λ _. a) (λ _. within_append c ps p a b)

adds_within : (n c : ℕ) (ps qs : List Word) → AllByRecursion (WordWithin c) ps → AllByRecursion (WordWithin c) qs → AllByRecursion (WordWithin c) (add_periods n ps qs)
adds_within n c ps [] a b = a
adds_within n c ps (q ∷ qs) a b = adds_within n c (add_period n ps q) qs (add_within n c ps q a b.0) b.1

row_within : (n x y c : ℕ) (a : LinearSet) (bs : List LinearSet) → SetWithin x c a → SetsWithin y c bs → SetsWithin (x + y) c (map (set_product n a) bs)
row_within n x y c a [] ha hb = tt
row_within n x y c a (b ∷ bs) ha hb =
    ((λ t. let k = ha.0 t in let l = hb.0.0 t in omega arith, adds_within n c a.periods b.periods ha.1 hb.0.1), row_within n x y c a bs ha hb.1)

products_within : (n x y c : ℕ) (xs ys : List LinearSet) → SetsWithin x c xs → SetsWithin y c ys → SetsWithin (x + y) c (products n xs ys)
products_within n x y c [] ys a b = tt
products_within n x y c (s ∷ xs) ys a b =
    sets_join (x + y) c (map (set_product n s) ys) (products n xs ys) (row_within n x y c s ys a.0 b) (products_within n x y c xs ys a.1 b)

-- ---- how many sets have periods

-- one where there is a period
abbrev periodic : List Word → ℕ
periodic [] = 0
periodic (p ∷ ps) = 1

-- how many of the sets have periods
abbrev pub periodic_sets : List LinearSet → ℕ
periodic_sets [] = 0
periodic_sets (s ∷ ss) = periodic s.periods + periodic_sets ss

-- no period is empty
abbrev Clean : ℕ → List Word → Type 0
Clean n ps = AllByRecursion (λ p. is_empty_below n p ≡ false) ps

clean_append : (n : ℕ) (ps : List Word) (p : Word) → Clean n ps → is_empty_below n p ≡ false → Clean n (ps ++ p ∷ [])
clean_append n [] p a b = (b, tt)
clean_append n (q ∷ ps) p a b = (a.0, clean_append n ps p a.1 b)

add_clean : (n : ℕ) (ps : List Word) (p : Word) → Clean n ps → Clean n (add_period n ps p)
add_clean n ps p a =
    cond_both (is_empty_below n p || has_word n ps p) ps (ps ++ p ∷ []) (Clean n) (λ _. a)
    (λ g. clean_append n ps p a (or_parts (is_empty_below n p) (has_word n ps p) g).0)

adds_clean : (n : ℕ) (ps qs : List Word) → Clean n ps → Clean n (add_periods n ps qs)
adds_clean n ps [] a = a
adds_clean n ps (q ∷ qs) a = adds_clean n (add_period n ps q) qs (add_clean n ps q a)

clean_join : (n : ℕ) (xs ys : List LinearSet) → SetsClean n xs → SetsClean n ys → SetsClean n (xs ++ ys)
clean_join n [] ys a b = b
clean_join n (x ∷ xs) ys a b = (a.0, clean_join n xs ys a.1 b)

row_clean : (n : ℕ) (a : LinearSet) (bs : List LinearSet) → Clean n a.periods → SetsClean n (map (set_product n a) bs)
row_clean n a [] h = tt
row_clean n a (b ∷ bs) h = (adds_clean n a.periods b.periods h, row_clean n a bs h)

products_clean : (n : ℕ) (xs ys : List LinearSet) → SetsClean n xs → SetsClean n (products n xs ys)
products_clean n [] ys a = tt
products_clean n (x ∷ xs) ys a = clean_join n (map (set_product n x) ys) (products n xs ys) (row_clean n x ys a.0) (products_clean n xs ys a.1)

times_clean : (n : ℕ) (made ss : List LinearSet) → SetsClean n made → SetsClean n (times_stars n made ss)
times_clean n made [] a = a
times_clean n made (s ∷ ss) a = times_clean n (products n made (set_star n s)) ss (products_clean n made (set_star n s) a)

periodic_at_most : (ps : List Word) → periodic ps ≤ 1
periodic_at_most [] = omega arith
periodic_at_most (p ∷ ps) = omega arith

periodic_append : (ps : List Word) (p : Word) → periodic (ps ++ p ∷ []) ≡ 1
periodic_append [] p = refl
periodic_append (q ∷ ps) p = refl

add_periodic : (n : ℕ) (ps : List Word) (p : Word) → periodic ps ≤ periodic (add_period n ps p)
add_periodic n ps p =
    cond_both (is_empty_below n p || has_word n ps p) ps (ps ++ p ∷ []) (λ qs. periodic ps ≤ periodic qs)
    (λ _. le_refl (periodic ps))
    (λ _. let e = periodic_append ps p in let m = periodic_at_most ps in omega arith)

adds_periodic : (n : ℕ) (ps qs : List Word) → periodic ps ≤ periodic (add_periods n ps qs)
adds_periodic n ps [] = le_refl (periodic ps)
adds_periodic n ps (q ∷ qs) =
    let a = add_periodic n ps q in let b = adds_periodic n (add_period n ps q) qs in omega arith

-- a period that isn't empty is there once it is added
new_periodic : (n : ℕ) (ps : List Word) (p : Word) → is_empty_below n p ≡ false → periodic (add_period n ps p) ≡ 1
new_periodic n ps p h =
    cond_both (is_empty_below n p || has_word n ps p) ps (ps ++ p ∷ []) (λ qs. periodic qs ≡ 1)
    (λ y. ⊎_elim (λ e. let c : true ≡ false = sym e ∙ h in cc) (λ m. there ps m) (or_cases (is_empty_below n p) (has_word n ps p) y))
    (λ _. periodic_append ps p)
  where
    there : (qs : List Word) → has_word n qs p ≡ true → periodic qs ≡ 1
    there [] m = cc
    there (q ∷ qs) m = refl

adds_second : (n : ℕ) (ps qs : List Word) → Clean n qs → periodic qs ≤ periodic (add_periods n ps qs)
adds_second n ps [] c = omega arith
adds_second n ps (q ∷ qs) c =
    let a = new_periodic n ps q c.0 in let b = adds_periodic n (add_period n ps q) qs in omega arith

periodic_join : (xs ys : List LinearSet) → periodic_sets (xs ++ ys) ≡ periodic_sets xs + periodic_sets ys
periodic_join [] ys = omega arith
periodic_join (x ∷ xs) ys = let r = periodic_join xs ys in omega arith

length_join : (xs ys : List LinearSet) → length (xs ++ ys) ≡ length xs + length ys
length_join [] ys = omega arith
length_join (x ∷ xs) ys = let r = length_join xs ys in omega arith

row_first : (n : ℕ) (a b : LinearSet) (bs : List LinearSet) → periodic a.periods ≤ periodic_sets (map (set_product n a) (b ∷ bs))
row_first n a b bs = let h = adds_periodic n a.periods b.periods in omega arith

row_second : (n : ℕ) (a : LinearSet) (bs : List LinearSet) → SetsClean n bs → periodic_sets bs ≤ periodic_sets (map (set_product n a) bs)
row_second n a [] c = omega arith
row_second n a (b ∷ bs) c = let h = adds_second n a.periods b.periods c.0 in let r = row_second n a bs c.1 in omega arith

products_first : (n : ℕ) (xs : List LinearSet) (b : LinearSet) (bs : List LinearSet) → periodic_sets xs ≤ periodic_sets (products n xs (b ∷ bs))
products_first n [] b bs = omega arith
products_first n (x ∷ xs) b bs =
    let j = periodic_join (map (set_product n x) (b ∷ bs)) (products n xs (b ∷ bs)) in
    let r = row_first n x b bs in
    let m = products_first n xs b bs in
    omega arith

products_second : (n : ℕ) (x : LinearSet) (xs ys : List LinearSet) → SetsClean n ys → periodic_sets ys ≤ periodic_sets (products n (x ∷ xs) ys)
products_second n x xs ys c =
    let j = periodic_join (map (set_product n x) ys) (products n xs ys) in
    let r = row_second n x ys c in
    omega arith

-- ---- stars: with each set that has periods the list is twice as long, and at most one set has none

-- the number doubled so many times
abbrev doubled : ℕ → ℕ → ℕ
doubled zero m = m
doubled (suc k) m = doubled k (m + m)

one_each : (n : ℕ) (made : List LinearSet) (a : LinearSet) → (length (products n made (a ∷ [])) ≡ length made) × (periodic_sets made ≤ periodic_sets (products n made (a ∷ [])))
one_each n [] a = (refl, omega arith)
one_each n (m ∷ made) a =
    let r = one_each n made a in
    let r0 = r.0 in
    let r1 = r.1 in
    let h = adds_periodic n m.periods a.periods in
    (omega arith, omega arith)

two_each : (n : ℕ) (made : List LinearSet) (a b : LinearSet) → 1 ≤ periodic b.periods → Clean n b.periods → (length (products n made (a ∷ b ∷ [])) ≡ length made + length made) × (periodic_sets made + length made ≤ periodic_sets (products n made (a ∷ b ∷ [])))
two_each n [] a b p c = (refl, omega arith)
two_each n (m ∷ made) a b p c =
    let r = two_each n made a b p c in
    let r0 = r.0 in
    let r1 = r.1 in
    let h = adds_periodic n m.periods a.periods in
    let k = adds_second n m.periods b.periods c in
    (omega arith, omega arith)

doubled_more : (j k m : ℕ) → j ≤ 1 → doubled k (doubled j m) ≡ doubled (j + k) m
doubled_more zero k m l = let e : k ≡ 0 + k = omega arith in ap (λ x. doubled x m) e
doubled_more (suc zero) k m l = let e : suc k ≡ suc zero + k = omega arith in ap (λ x. doubled x m) e
doubled_more (suc (suc j)) k m l = absurd (omega arith)

step_by : (n : ℕ) (made : List LinearSet) (base : Word) (ps : List Word) → Clean n ps → length made ≤ periodic_sets made + 1 → (length (products n made (star_by n base ps)) ≡ doubled (periodic ps) (length made)) × (length (products n made (star_by n base ps)) ≤ periodic_sets (products n made (star_by n base ps)) + 1)
step_by n made base [] c h =
    let r = one_each n made (linear_set no_word (add_period n [] base)) in
    let r0 = r.0 in
    let r1 = r.1 in
    (r0, omega arith)
step_by n made base (p ∷ ps) c h =
    let r = two_each n made only_empty (linear_set base (add_period n (p ∷ ps) base)) (add_periodic n (p ∷ ps) base) (add_clean n (p ∷ ps) base c) in
    let r0 = r.0 in
    let r1 = r.1 in
    (r0, omega arith)

-- the list is as long as that, and at most one of its sets has no periods, if that is so at the start
times_sets : (n : ℕ) (made ss : List LinearSet) → SetsClean n ss → length made ≤ periodic_sets made + 1 → (length (times_stars n made ss) ≡ doubled (periodic_sets ss) (length made)) × (length (times_stars n made ss) ≤ periodic_sets (times_stars n made ss) + 1)
times_sets n made [] c h = (refl, h)
times_sets n made (s ∷ ss) c h =
    let next = products n made (set_star n s) in
    let step = step_by n made s.base s.periods c.0 h in
    let rest = times_sets n next ss c.1 step.1 in
    (rest.0 ∙ ap (doubled (periodic_sets ss)) step.0 ∙ doubled_more (periodic s.periods) (periodic_sets ss) (length made) (periodic_at_most s.periods), rest.1)

doubled_sum : (k m : ℕ) → doubled k (m + m) ≡ doubled k m + doubled k m
doubled_sum zero m = refl
doubled_sum (suc k) m = doubled_sum k (m + m)

-- 2 to the power k
abbrev power : ℕ → ℕ
power k = doubled k 1

power_suc : (k : ℕ) → power (suc k) ≡ power k + power k
power_suc k = doubled_sum k 1

power_above : (k : ℕ) → k + 1 ≤ power k
power_above zero = omega arith
power_above (suc k) = let h = power_above k in let e = power_suc k in omega arith

power_twice : (k : ℕ) → k + k ≤ power k
power_twice zero = omega arith
power_twice (suc k) = let h = power_twice k in let a = power_above k in let e = power_suc k in omega arith

power_square : (k : ℕ) → suc k * k + 2 ≤ power (suc k)
power_square zero = let z = mul-zero 1 in let e = power_suc 0 in omega arith
power_square (suc k) =
    let h = power_square k in
    let t = power_twice (suc k) in
    let e = power_suc (suc k) in
    let a = suc-mul (suc k) (suc k) in
    let b = mul-suc (suc k) k in
    omega arith

power_more : (j k : ℕ) → power k ≤ power (j + k)
power_more zero k = let e : 0 + k ≡ k = omega arith in subst (λ x. power k ≤ power x) (sym e) (le_refl (power k))
power_more (suc j) k =
    let h = power_more j k in
    let e : suc (j + k) ≡ suc j + k = omega arith in
    let s = power_suc (j + k) in
    subst (λ x. power k ≤ power x) e (omega arith)

-- ---- how much larger the counts are than the pattern's leaves

-- with so many sets that have periods
abbrev factor : ℕ → ℕ
factor s = max 1 (s - 1)

factor_more : (s r : ℕ) → s ≤ r → factor s ≤ factor r
factor_more s r l = omega arith

-- a star takes at most that many bases, and then makes many more sets
star_factor : (s r : ℕ) → power s ≤ r + 1 → s * factor s ≤ factor r
star_factor zero r l = let z = zero-mul (factor 0) in omega arith
star_factor (suc zero) r l = let z = one-mul (factor 1) in omega arith
star_factor (suc (suc k)) r l =
    let h = power_square (suc k) in
    let is : factor (suc (suc k)) ≡ suc k = omega arith in
    let same : suc (suc k) * factor (suc (suc k)) ≡ suc (suc k) * suc k = ap (λ x. suc (suc k) * x) is in
    omega arith

-- the tags, 0s and 1s that the pattern is made of
abbrev leaves : Pat → ℕ
leaves (Sum e f) = leaves e + leaves f
leaves (Prod e f) = leaves e + leaves f
leaves (Star e) = leaves e
leaves _ = 1

leaves_size : (e : Pat) → leaves e + leaves e ≤ size_of e + 1
leaves_size Zero = omega arith
leaves_size One = omega arith
leaves_size (Tag m) = omega arith
leaves_size (Sum e f) = let a = leaves_size e in let b = leaves_size f in omega arith
leaves_size (Prod e f) = let a = leaves_size e in let b = leaves_size f in omega arith
leaves_size (Star e) = let a = leaves_size e in omega arith
leaves_size (Var k) = omega arith

pub form_clean : (n : ℕ) (e : Pat) → SetsClean n (sets_of n e)
form_clean n Zero = tt
form_clean n One = (tt, tt)
form_clean n (Tag m) = (tt, tt)
form_clean n (Sum e f) = clean_join n (sets_of n e) (sets_of n f) (form_clean n e) (form_clean n f)
form_clean n (Prod e f) = products_clean n (sets_of n e) (sets_of n f) (form_clean n e)
form_clean n (Star e) = times_clean n (only_empty ∷ []) (sets_of n e) (tt, tt)
form_clean n (Var k) = tt

star_within : (n c : ℕ) (base : Word) (ps : List Word) → WordWithin c base → AllByRecursion (WordWithin c) ps → SetsWithin (periodic ps * c) c (star_by n base ps)
star_within n c base [] a b = ((λ t. omega arith, add_within n c [] base tt a), tt)
star_within n c base (p ∷ ps) a b =
    let e = one-mul c in
    ((λ t. omega arith, tt), ((λ t. let k = a t in omega arith, add_within n c (p ∷ ps) base b a), tt))

periodic_le : (c : ℕ) (ps : List Word) → periodic ps * c ≤ c
periodic_le c [] = let z = zero-mul c in omega arith
periodic_le c (p ∷ ps) = let o = one-mul c in omega arith

-- the star of a set has no greater counts
pub star_bound : (n c : ℕ) (s : LinearSet) → SetWithin c c s → SetsWithin c c (set_star n s)
star_bound n c s h =
    sets_more (periodic s.periods * c) c c c (set_star n s) (periodic_le c s.periods) (le_refl c) (star_within n c s.base s.periods h.0 h.1)

pub times_within : (n x c : ℕ) (made ss : List LinearSet) → SetsWithin x c made → SetsWithin c c ss → SetsWithin (x + periodic_sets ss * c) c (times_stars n made ss)
times_within n x c made [] a b =
    let z = zero-mul c in
    sets_more x c (x + 0 * c) c made (omega arith) (le_refl c) a
times_within n x c made (s ∷ ss) a b =
    let one = periodic s.periods in
    let next = products n made (set_star n s) in
    let whole : (x + one * c) + periodic_sets ss * c ≡ x + (one + periodic_sets ss) * c = let d = add-mul one (periodic_sets ss) c in omega arith in
    subst (λ y. SetsWithin y c (times_stars n next ss)) whole
    (times_within n (x + one * c) c next ss
    (products_within n x (one * c) c made (set_star n s) a (star_within n c s.base s.periods b.0.0 b.0.1))
    b.1)

no_products : (n : ℕ) (xs : List LinearSet) → products n xs [] ≡ []
no_products n [] = refl
no_products n (x ∷ xs) = no_products n xs

-- the bound of a pattern's closed form
abbrev bound : ℕ → Pat → ℕ
bound n e = leaves e * factor (periodic_sets (sets_of n e))

product_bound : (n a b c : ℕ) (xs ys : List LinearSet) → SetsWithin a a xs → SetsWithin b b ys → ((x : LinearSet) (more : List LinearSet) (y : LinearSet) (others : List LinearSet) → xs ≡ x ∷ more → ys ≡ y ∷ others → a + b ≤ c) → SetsWithin c c (products n xs ys)
product_bound n a b c [] ys ha hb h = tt
product_bound n a b c (x ∷ xs) [] ha hb h = subst (SetsWithin c c) (sym (no_products n (x ∷ xs))) tt
product_bound n a b c (x ∷ xs) (y ∷ ys) ha hb h =
    let l = h x xs y ys refl refl in
    sets_more (a + b) (a + b) c c (products n (x ∷ xs) (y ∷ ys)) l l
    (products_within n a b (a + b) (x ∷ xs) (y ∷ ys)
    (sets_more a a a (a + b) (x ∷ xs) (le_refl a) (omega arith) ha)
    (sets_more b b b (a + b) (y ∷ ys) (le_refl b) (omega arith) hb))

bounds_add : (a b s t r : ℕ) → s ≤ r → t ≤ r → a * factor s + b * factor t ≤ (a + b) * factor r
bounds_add a b s t r l m =
    let x = mul-le-mul (le_refl a) (factor_more s r l) in
    let y = mul-le-mul (le_refl b) (factor_more t r m) in
    let e = add-mul a b (factor r) in
    omega arith

pub form_within : (n : ℕ) (e : Pat) → SetsWithin (bound n e) (bound n e) (sets_of n e)
form_within n Zero = tt
form_within n One = ((λ t. omega arith, tt), tt)
form_within n (Tag m) =
    let b : ℕ = bound n (Tag m) in
    ((λ t. cond_both (nat_eq t m) 1 0 (λ x. x ≤ 1 * factor 0) (λ _. one_bound) (λ _. omega arith), tt), tt)
  where
    one_bound : 1 ≤ 1 * factor 0
    one_bound = let e = one-mul (factor 0) in omega arith
form_within n (Sum e f) =
    let xs = sets_of n e in
    let ys = sets_of n f in
    let j = periodic_join xs ys in
    let s = periodic_sets (xs ++ ys) in
    let both = bounds_add (leaves e) (leaves f) (periodic_sets xs) (periodic_sets ys) s (omega arith) (omega arith) in
    let whole = (leaves e + leaves f) * factor s in
    sets_join whole whole xs ys
    (sets_more (bound n e) (bound n e) whole whole xs (omega arith) (omega arith) (form_within n e))
    (sets_more (bound n f) (bound n f) whole whole ys (omega arith) (omega arith) (form_within n f))
form_within n (Prod e f) =
    let xs = sets_of n e in
    let ys = sets_of n f in
    let s = periodic_sets (products n xs ys) in
    product_bound n (bound n e) (bound n f) ((leaves e + leaves f) * factor s) xs ys (form_within n e) (form_within n f)
    (λ x more y others p q.
    bounds_add (leaves e) (leaves f) (periodic_sets xs) (periodic_sets ys) s
    (subst (λ zs. periodic_sets xs ≤ periodic_sets (products n xs zs)) (sym q) (products_first n xs y others))
    (subst (λ zs. periodic_sets ys ≤ periodic_sets (products n zs ys)) (sym p) (products_second n x more ys (form_clean n f))))
form_within n (Star e) =
    let xs = sets_of n e in
    let s = periodic_sets xs in
    let c = bound n e in
    let made = times_stars n (only_empty ∷ []) xs in
    let r = periodic_sets made in
    let sets = times_sets n (only_empty ∷ []) xs (form_clean n e) (omega arith) in
    let sets0 : length made ≡ power s = sets.0 in
    let sets1 = sets.1 in
    let most : power s ≤ r + 1 = omega arith in
    let above = power_above s in
    let grown : s * c ≤ leaves e * factor r = subst (λ x. x ≤ leaves e * factor r) (mul_left_comm (leaves e) s (factor s)) (mul-le-mul (le_refl (leaves e)) (star_factor s r most)) in
    let kept : c ≤ leaves e * factor r = mul-le-mul (le_refl (leaves e)) (factor_more s r (omega arith)) in
    sets_more (0 + s * c) c (leaves e * factor r) (leaves e * factor r) made (omega arith) kept
    (times_within n 0 c (only_empty ∷ []) xs ((λ t. omega arith, tt), tt) (form_within n e))
form_within n (Var k) = tt

-- ---- closed forms that are not too large

periodic_length : (ss : List LinearSet) → periodic_sets ss ≤ length ss
periodic_length [] = omega arith
periodic_length (s ∷ ss) = let m = periodic_at_most s.periods in let r = periodic_length ss in omega arith

times_short : (n : ℕ) (made ss : List LinearSet) → is_short made ≡ true → stars_are_short n made ss ≡ true → is_short (times_stars n made ss) ≡ true
times_short n made [] a h = a
times_short n made (s ∷ ss) a h =
    let next = products n made (set_star n s) in
    let both = and_parts (is_short next) (stars_are_short n next ss) h in
    times_short n next ss both.0 both.1

form_short : (n : ℕ) (e : Pat) → lists_are_short n e ≡ true → is_short (sets_of n e) ≡ true
form_short n Zero h = refl
form_short n One h = refl
form_short n (Tag m) h = refl
form_short n (Sum e f) h = (and_parts (lists_are_short n e && lists_are_short n f) (is_short (sets_of n (Sum e f))) h).1
form_short n (Prod e f) h = (and_parts (lists_are_short n e && lists_are_short n f) (is_short (sets_of n (Prod e f))) h).1
form_short n (Star e) h =
    times_short n (only_empty ∷ []) (sets_of n e) refl (and_parts (lists_are_short n e) (stars_are_short n (only_empty ∷ []) (sets_of n e)) h).1
form_short n (Var k) h = refl

pub form_counts : (n : ℕ) (e : Pat) → is_small e ≡ true → lists_are_short n e ≡ true → SetsWithin (2 ^ 27) (2 ^ 27) (sets_of n e)
form_counts n e small short =
    let size = leb-true (size_of e) most_nodes (and_parts (nat_le (size_of e) most_nodes) (nat_le (levels_of e) most_levels) small).0 in
    let few = leb-true (length (sets_of n e)) most_sets (form_short n e short) in
    let l = leaves_size e in
    let p = periodic_length (sets_of n e) in
    let leaf : leaves e ≤ 32768 = omega arith in
    let grown : factor (periodic_sets (sets_of n e)) ≤ most_sets = omega arith in
    let most : bound n e ≤ 32768 * most_sets = mul-le-mul leaf grown in
    let whole : 32768 * most_sets ≡ 2 ^ 27 = refl in
    let fits : bound n e ≤ 2 ^ 27 = subst (λ x. bound n e ≤ x) whole most in
    sets_more (bound n e) (bound n e) (2 ^ 27) (2 ^ 27) (sets_of n e) fits fits (form_within n e)

-- a star of a short list has taken at most 12 sets with periods
few_periodic : (s : ℕ) → power s ≤ most_sets → s ≤ 12
few_periodic s l =
    ⊎_elim
    (λ small. omega arith)
    (λ large.
    let m = power_more (s - 13) 13 in
    let e : (s - 13) + 13 ≡ s = omega arith in
    let most : power 13 ≤ power s = subst (λ x. power 13 ≤ power x) e m in
    let is : power 13 ≡ 8192 = refl in
    absurd (omega arith))
    (cases_lt s 13)

pub star_counts : (n c : ℕ) (ss : List LinearSet) → SetsWithin c c ss → SetsClean n ss → is_short (times_stars n (only_empty ∷ []) ss) ≡ true → SetsWithin (12 * c) c (times_stars n (only_empty ∷ []) ss)
star_counts n c ss a b short =
    let made = times_stars n (only_empty ∷ []) ss in
    let sets = times_sets n (only_empty ∷ []) ss b (omega arith) in
    let sets0 : length made ≡ power (periodic_sets ss) = sets.0 in
    let few = leb-true (length made) most_sets short in
    let s = few_periodic (periodic_sets ss) (omega arith) in
    let m : periodic_sets ss * c ≤ 12 * c = mul-le-mul s (le_refl c) in
    sets_more (0 + periodic_sets ss * c) c (12 * c) c made (omega arith) (le_refl c)
    (times_within n 0 c (only_empty ∷ []) ss ((λ t. omega arith, tt), tt) a)
