-- Products of linear sets may be taken together either way, and with the empty word alone they stay as they are.
use Rattle.std.proofs.Common.{◌≡◌, ℕ, zero, suc, ◌<◌, Bool, true, false, ◌||◌, nat_eq, List, [], ◌∷◌, ◌++◌, map, ⊎_elim, refl, sym, ap, ap₂, ◌∙◌, arith, append-nil}
use Rattle.std.specs.Prelude.{if◌then◌else◌}
use Rattle.std.specs.List.{AllByRecursion}
use Rattle.std.proofs.lemmas.Bool.{and_from, eq-eqb, or_left, or_right, or_cases, cond_both, cases_Bool}
use Rattle.pat_words_spec.specs.Words.{Word, no_word, plus}
use Rattle.pat_words_spec.specs.Patterns.{Pat, Zero, One, Tag, Sum, Prod, Star, Var}
use Rattle.pat_words_laws.proofs.WordLaws.{word_ext}
use Rattle.pat_inclusion_spec.specs.Counts.{same_below, is_empty_below, has_word}
use Rattle.pat_inclusion_spec.specs.LinearSets.{LinearSet, linear_set}
use Rattle.pat_inclusion_spec.specs.ClosedForms.{add_period, add_periods, set_product, products, only_empty, set_star, times_stars, sets_of}
use Rattle.pat_inclusion_laws.proofs.Spans.{same_counts}

-- ---- words with the same counts

same_each : (n : ℕ) (u v : Word) → ((t : ℕ) → t < n → u t ≡ v t) → same_below n u v ≡ true
same_each zero u v h = refl
same_each (suc n) u v h =
    and_from (same_below n u v) (nat_eq (u n) (v n)) (same_each n u v (λ t l. h t (omega arith))) (eq-eqb (u n) (v n) (h n (omega arith)))

same_on : (n : ℕ) (u v w : Word) → same_below n u v ≡ true → same_below n v w ≡ true → same_below n u w ≡ true
same_on n u v w a b = same_each n u w (λ t l. same_counts n u v a t l ∙ same_counts n v w b t l)

same_back : (n : ℕ) (u v : Word) → same_below n u v ≡ true → same_below n v u ≡ true
same_back n u v a = same_each n v u (λ t l. sym (same_counts n u v a t l))

-- ---- a word that is there stays there

has_same : (n : ℕ) (ps : List Word) (q r : Word) → same_below n r q ≡ true → has_word n ps q ≡ true → has_word n ps r ≡ true
has_same n [] q r e h = h
has_same n (p ∷ ps) q r e h =
    ⊎_elim
    (λ k. or_left (same_below n r p) (has_word n ps r) (same_on n r q p e k))
    (λ k. or_right (same_below n r p) (has_word n ps r) (has_same n ps q r e k))
    (or_cases (same_below n q p) (has_word n ps q) h)

has_more : (n : ℕ) (ps : List Word) (q r : Word) → has_word n ps r ≡ true → has_word n (ps ++ q ∷ []) r ≡ true
has_more n [] q r h = or_right (same_below n r q) (has_word n [] r) h
has_more n (p ∷ ps) q r h =
    ⊎_elim
    (λ k. or_left (same_below n r p) (has_word n (ps ++ q ∷ []) r) k)
    (λ k. or_right (same_below n r p) (has_word n (ps ++ q ∷ []) r) (has_more n ps q r k))
    (or_cases (same_below n r p) (has_word n ps r) h)

has_last : (n : ℕ) (ps : List Word) (q r : Word) → same_below n r q ≡ true → has_word n (ps ++ q ∷ []) r ≡ true
has_last n [] q r e = or_left (same_below n r q) (has_word n [] r) e
has_last n (p ∷ ps) q r e = or_right (same_below n r p) (has_word n (ps ++ q ∷ []) r) (has_last n ps q r e)

has_kept : (n : ℕ) (ps qs : List Word) (r : Word) → has_word n ps r ≡ true → has_word n (add_periods n ps qs) r ≡ true
has_kept n ps [] r h = h
has_kept n ps (q ∷ qs) r h =
    has_kept n (add_period n ps q) qs r
    (cond_both (is_empty_below n q || has_word n ps q) ps (ps ++ q ∷ []) (λ xs. has_word n xs r ≡ true) (λ _. h) (λ _. has_more n ps q r h))

differ : (b : Bool) → b ≡ true → b ≡ false → ⊥
differ b p q = cc

has_added : (n : ℕ) (ps : List Word) (q r : Word) → is_empty_below n r ≡ false → same_below n r q ≡ true → has_word n (add_period n ps q) r ≡ true
has_added n ps q r some e =
    cond_both (is_empty_below n q || has_word n ps q) ps (ps ++ q ∷ []) (λ xs. has_word n xs r ≡ true)
    (λ h. ⊎_elim
    (λ k. absurd (differ (is_empty_below n r) (same_on n r q no_word e k) some))
    (λ k. has_same n ps q r e k)
    (or_cases (is_empty_below n q) (has_word n ps q) h))
    (λ _. has_last n ps q r e)

has_all : (n : ℕ) (ps qs : List Word) (r : Word) → is_empty_below n r ≡ false → has_word n qs r ≡ true → has_word n (add_periods n ps qs) r ≡ true
has_all n ps [] r some h = absurd (cc)
has_all n ps (q ∷ qs) r some h =
    ⊎_elim
    (λ k. has_kept n (add_period n ps q) qs r (has_added n ps q r some k))
    (λ k. has_all n (add_period n ps q) qs r some k)
    (or_cases (same_below n r q) (has_word n qs r) h)

-- ---- periods added together either way

adds_last : (n : ℕ) (ps qs : List Word) (r : Word) → add_periods n ps (qs ++ r ∷ []) ≡ add_period n (add_periods n ps qs) r
adds_last n ps [] r = refl
adds_last n ps (q ∷ qs) r = adds_last n (add_period n ps q) qs r

-- the period isn't added
left_out : (n : ℕ) (ps : List Word) (r : Word) → (is_empty_below n r || has_word n ps r) ≡ true → add_period n ps r ≡ ps
left_out n ps r h = ap (λ b. if b then ps else ps ++ r ∷ []) h

adds_one : (n : ℕ) (ps qs : List Word) (r : Word) → add_periods n ps (add_period n qs r) ≡ add_period n (add_periods n ps qs) r
adds_one n ps qs r =
    cond_both (is_empty_below n r || has_word n qs r) qs (qs ++ r ∷ []) (λ xs. add_periods n ps xs ≡ add_period n (add_periods n ps qs) r)
    (λ h. sym (left_out n (add_periods n ps qs) r
    (⊎_elim
    (λ e. or_left (is_empty_below n r) (has_word n (add_periods n ps qs) r) e)
    (λ some. or_right (is_empty_below n r) (has_word n (add_periods n ps qs) r)
    (has_all n ps qs r some (⊎_elim (λ e. absurd (differ (is_empty_below n r) e some)) (λ k. k) (or_cases (is_empty_below n r) (has_word n qs r) h))))
    (cases_Bool (is_empty_below n r)))))
    (λ _. adds_last n ps qs r)

pub adds_together : (n : ℕ) (ps qs rs : List Word) → add_periods n (add_periods n ps qs) rs ≡ add_periods n ps (add_periods n qs rs)
adds_together n ps qs [] = refl
adds_together n ps qs (r ∷ rs) =
    ap (λ xs. add_periods n xs rs) (sym (adds_one n ps qs r)) ∙ adds_together n ps (add_period n qs r) rs

-- ---- products taken together either way

pub product_together : (n : ℕ) (a b c : LinearSet) → set_product n (set_product n a b) c ≡ set_product n a (set_product n b c)
product_together n a b c =
    ap₂ linear_set
    (word_ext (plus (plus a.base b.base) c.base) (plus a.base (plus b.base c.base)) (λ t. omega arith))
    (adds_together n a.periods b.periods c.periods)

row_together : (n : ℕ) (a b : LinearSet) (cs : List LinearSet) → map (set_product n (set_product n a b)) cs ≡ map (set_product n a) (map (set_product n b) cs)
row_together n a b [] = refl
row_together n a b (c ∷ cs) = ap₂ (λ x xs. x ∷ xs) (product_together n a b c) (row_together n a b cs)

-- what stands left of a product is a factor of all behind it
pub factor_on : (n : ℕ) (a b : LinearSet) (cs : List LinearSet) → map (set_product n a) (products n (b ∷ []) cs) ≡ map (set_product n (set_product n a b)) cs
factor_on n a b cs = ap (map (set_product n a)) (append-nil (map (set_product n b) cs)) ∙ sym (row_together n a b cs)

-- ---- the empty word alone

-- its product with the set is that set
abbrev IsFixed : ℕ → LinearSet → Type 0
IsFixed n s = set_product n only_empty s ≡ s

fixed_join : (n : ℕ) (xs ys : List LinearSet) → AllByRecursion (IsFixed n) xs → AllByRecursion (IsFixed n) ys → AllByRecursion (IsFixed n) (xs ++ ys)
fixed_join n [] ys a b = b
fixed_join n (x ∷ xs) ys a b = (a.0, fixed_join n xs ys a.1 b)

fixed_row : (n : ℕ) (a : LinearSet) (bs : List LinearSet) → IsFixed n a → AllByRecursion (IsFixed n) (map (set_product n a) bs)
fixed_row n a [] h = tt
fixed_row n a (b ∷ bs) h = (sym (product_together n only_empty a b) ∙ ap (λ x. set_product n x b) h, fixed_row n a bs h)

fixed_products : (n : ℕ) (xs ys : List LinearSet) → AllByRecursion (IsFixed n) xs → AllByRecursion (IsFixed n) (products n xs ys)
fixed_products n [] ys h = tt
fixed_products n (x ∷ xs) ys h = fixed_join n (map (set_product n x) ys) (products n xs ys) (fixed_row n x ys h.0) (fixed_products n xs ys h.1)

fixed_times : (n : ℕ) (made ss : List LinearSet) → AllByRecursion (IsFixed n) made → AllByRecursion (IsFixed n) (times_stars n made ss)
fixed_times n made [] h = h
fixed_times n made (s ∷ ss) h = fixed_times n (products n made (set_star n s)) ss (fixed_products n made (set_star n s) h)

word_fixed : (n : ℕ) (u : Word) → IsFixed n (linear_set u [])
word_fixed n u = ap (λ w. linear_set w []) (word_ext (plus no_word u) u (λ t. omega arith))

fixed_form : (n : ℕ) (e : Pat) → AllByRecursion (IsFixed n) (sets_of n e)
fixed_form n Zero = tt
fixed_form n One = (word_fixed n no_word, tt)
fixed_form n (Tag m) = (word_fixed n _, tt)
fixed_form n (Sum e f) = fixed_join n (sets_of n e) (sets_of n f) (fixed_form n e) (fixed_form n f)
fixed_form n (Prod e f) = fixed_products n (sets_of n e) (sets_of n f) (fixed_form n e)
fixed_form n (Star e) = fixed_times n (only_empty ∷ []) (sets_of n e) (word_fixed n no_word, tt)
fixed_form n (Var k) = tt

all_fixed : (n : ℕ) (xs : List LinearSet) → AllByRecursion (IsFixed n) xs → map (set_product n only_empty) xs ≡ xs
all_fixed n [] h = refl
all_fixed n (x ∷ xs) h = ap₂ (λ y ys. y ∷ ys) h.0 (all_fixed n xs h.1)

pub form_alone : (n : ℕ) (e : Pat) → map (set_product n only_empty) (sets_of n e) ≡ sets_of n e
form_alone n e = all_fixed n (sets_of n e) (fixed_form n e)
