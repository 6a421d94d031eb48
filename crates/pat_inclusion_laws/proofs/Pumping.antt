-- Flat patterns: counts above the degree may be changed to any other that is not below the degree.
use Rattle.std.proofs.Common.{◌≡◌, ℕ, ◌+◌, ◌-◌, ◌*◌, ◌≤◌, ◌<◌, min, max, true, nat_eq, ◌⊎◌, inl, inr, ⊎_elim, refl, sym, ap, ◌∙◌, subst, arith, mul-zero, mul-one}
use Rattle.std.proofs.lemmas.Bool.{and_parts, cases_lt, cases_eq, ne_eqb, eq-eqb, cond_both, cond-true, cond-false}
use Rattle.pat_words_spec.specs.Words.{Word, no_word, one, plus}
use Rattle.pat_words_spec.specs.Patterns.{Pat, Zero, One, Tag, Sum, Prod, Star, Var, Language, In}
use Rattle.pat_words_spec.specs.Flats.{is_choice, is_flat, degree_of}
use Rattle.pat_words_spec.specs.Cuts.{cut_at}
use Rattle.pat_words_laws.proofs.WordLaws.{word_ext, count_eq, plus_none}
use Rattle.pat_words_spec.specs.Languages.{StarOf}
use Rattle.pat_inclusion_spec.specs.Counts.{scaled}
use Rattle.pat_inclusion_laws.proofs.Languages.{star_one, star_least, star_scaled, star_either_to, star_either_from}

-- each count of w is that of v, or both are large
abbrev pub Pumps : ℕ → Word → Word → Type 0
Pumps d v w = (t : ℕ) → (w t ≡ v t) ⊎ ((d < v t) × (d ≤ w t))

pumps_same : (d : ℕ) (v w : Word) → ((t : ℕ) → v t ≤ d) → Pumps d v w → w ≡ v
pumps_same d v w small h = word_ext w v (λ t. ⊎_elim (λ e. e) (λ l. let s = small t in let k = l.0 in absurd (omega arith)) (h t))

-- one count of a sum, changed, is a sum of counts that are changed
split_count : (a b x y z : ℕ) → (z ≡ x + y) ⊎ ((a + b < x + y) × (a + b ≤ z)) → (p q : ℕ) × ((p ≡ x) ⊎ ((a < x) × (a ≤ p))) × ((q ≡ y) ⊎ ((b < y) × (b ≤ q))) × (z ≡ p + q)
split_count a b x y z h =
    ⊎_elim
    (λ e. (x, y, inl refl, inl refl, e))
    (λ l.
    let l0 = l.0 in
    let l1 = l.1 in
    ⊎_elim
    (λ ax. ⊎_elim
    (λ by. (z - b, b, inr (ax, omega arith), inr (by, omega arith), omega arith))
    (λ yb. (z - y, y, inr (ax, omega arith), inl refl, omega arith))
    (cases_lt b y))
    (λ xa. (x, z - x, inl refl, inr (omega arith, omega arith), omega arith))
    (cases_lt a x))
    h

split_word : (a b : ℕ) (u v w : Word) → Pumps (a + b) (plus u v) w → (p q : Word) × Pumps a u p × Pumps b v q × (w ≡ plus p q)
split_word a b u v w h =
    let p : Word = λ t. (split_count a b (u t) (v t) (w t) (h t)).0 in
    let q : Word = λ t. (split_count a b (u t) (v t) (w t) (h t)).1 in (
      p,
      q,
      λ t. (split_count a b (u t) (v t) (w t) (h t)).2,
      λ t. (split_count a b (u t) (v t) (w t) (h t)).3,
      word_ext w (plus p q) (λ t. (split_count a b (u t) (v t) (w t) (h t)).4),
    )

-- ---- finite sums of words of a choice

pub only_none : (L : Language) → ((w : Word) → L w → w ≡ no_word) → (w : Word) → StarOf L w → w ≡ no_word
only_none L none =
    star_least L (λ x. x ≡ no_word) refl
    (λ u v hu hv. ap (λ (x : Word). plus x v) hu ∙ ap (plus no_word) hv ∙ plus_none no_word)
    none

pumped_none : (L : Language) → ((w : Word) → L w → w ≡ no_word) → (v w : Word) → StarOf L v → Pumps 0 v w → StarOf L w
pumped_none L none v w h p =
    let e = only_none L none v h in
    subst (StarOf L) (sym (pumps_same 0 v w (λ t. let z = count_eq v no_word e t in omega arith) p)) h

pub one_other : (m t : ℕ) → (t ≡ m → ⊥) → one m t ≡ 0
one_other m t d = cond-false (nat_eq t m) 1 0 (ne_eqb t m d)

pub one_here : (m t : ℕ) → t ≡ m → one m t ≡ 1
one_here m t e = cond-true (nat_eq t m) 1 0 (eq-eqb t m e)

-- a word with one tag alone is a multiple of that of one message
pub alone : (m : ℕ) (w : Word) → ((t : ℕ) → (t ≡ m → ⊥) → w t ≡ 0) → w ≡ scaled (w m) (one m)
alone m w h =
    word_ext w (scaled (w m) (one m))
    (λ t. ⊎_elim
    (λ e. ap w e ∙ sym (mul-one (w m)) ∙ ap (λ x. w m * x) (sym (one_here m t e)))
    (λ d. h t d ∙ sym (mul-zero (w m)) ∙ ap (λ x. w m * x) (sym (one_other m t d)))
    (cases_eq t m))

pumped_tag : (m : ℕ) (v w : Word) → StarOf (In (Tag m)) v → Pumps 0 v w → StarOf (In (Tag m)) w
pumped_tag m v w h p =
    let none = star_least (In (Tag m)) (λ x. (t : ℕ) → (t ≡ m → ⊥) → x t ≡ 0) (λ t d. refl)
    (λ a b ha hb t d. let x = ha t d in let y = hb t d in omega arith)
    (λ x e t d. count_eq x (one m) e t ∙ one_other m t d)
    v
    h in
    let zero_else : (t : ℕ) → (t ≡ m → ⊥) → w t ≡ 0 = λ t d. let z = none t d in ⊎_elim (λ e. e ∙ z) (λ l. let k = l.0 in absurd (omega arith)) (p t) in
    subst (StarOf (In (Tag m))) (sym (alone m w zero_else)) (star_scaled (In (Tag m)) (w m) (one m) (star_one (In (Tag m)) (one m) refl))

pumped_star : (c : Pat) → is_choice c ≡ true → (v w : Word) → StarOf (In c) v → Pumps 0 v w → StarOf (In c) w
pumped_star Zero h v w i p = pumped_none (In Zero) (λ x k. absurd k) v w i p
pumped_star One h v w i p = pumped_none (In One) (λ x k. k) v w i p
pumped_star (Tag m) h v w i p = pumped_tag m v w i p
pumped_star (Sum e f) h v w i p =
    let both = and_parts (is_choice e) (is_choice f) h in
    let k = star_either_to (In e) (In f) v i in
    let s = split_word 0 0 k.0 k.1 w (subst (λ (x : Word). Pumps 0 x w) k.4 p) in
    star_either_from (In e) (In f) w
    (s.0, s.1, pumped_star e both.0 k.0 s.0 k.2 s.2, pumped_star f both.1 k.1 s.1 k.3 s.3, s.4)
pumped_star (Prod e f) h v w i p = cc
pumped_star (Star e) h v w i p = cc
pumped_star (Var k) h v w i p = cc

pumps_less : (c d : ℕ) (v w : Word) → c ≤ d → Pumps d v w → Pumps c v w
pumps_less c d v w l p t = ⊎_elim (λ e. inl e) (λ k. let k0 = k.0 in let k1 = k.1 in inr (omega arith, omega arith)) (p t)

left_max : (a b : ℕ) → a ≤ max a b
left_max a b = omega arith

right_max : (a b : ℕ) → b ≤ max a b
right_max a b = omega arith

-- a flat pattern's words may be changed where they have more than the degree
pub pumped : (e : Pat) → is_flat e ≡ true → (v w : Word) → In e v → Pumps (degree_of e) v w → In e w
pumped Zero h v w i p = absurd i
pumped One h v w i p = pumps_same 0 v w (λ t. let z = count_eq v no_word i t in omega arith) p ∙ i
pumped (Tag m) h v w i p =
    pumps_same 1 v w
    (λ t. let z = count_eq v (one m) i t in cond_both (nat_eq t m) 1 0 (λ x. one m t ≡ x → v t ≤ 1) (λ _ e. omega arith) (λ _ e. omega arith) refl)
    p
    ∙ i
pumped (Sum e f) h v w i p =
    let both = and_parts (is_flat e) (is_flat f) h in
    ⊎_elim
    (λ k. inl (pumped e both.0 v w k (pumps_less (degree_of e) (max (degree_of e) (degree_of f)) v w (left_max (degree_of e) (degree_of f)) p)))
    (λ k. inr (pumped f both.1 v w k (pumps_less (degree_of f) (max (degree_of e) (degree_of f)) v w (right_max (degree_of e) (degree_of f)) p)))
    i
pumped (Prod e f) h v w i p =
    let both = and_parts (is_flat e) (is_flat f) h in
    let s = split_word (degree_of e) (degree_of f) i.0 i.1 w (subst (λ (x : Word). Pumps (degree_of e + degree_of f) x w) i.4 p) in
    (s.0, s.1, pumped e both.0 i.0 s.0 i.2 s.2, pumped f both.1 i.1 s.1 i.3 s.3, s.4)
pumped (Star e) h v w i p = pumped_star e h v w i p
pumped (Var k) h v w i p = absurd i

-- counts that are cut to the same are the same, or both at least the bound
pub cut_cases : (k x y : ℕ) → min x k ≡ min y k → (y ≡ x) ⊎ ((k ≤ x) × (k ≤ y))
cut_cases k x y h =
    ⊎_elim
    (λ l. ⊎_elim (λ m. inl (omega arith)) (λ g. absurd (omega arith)) (cases_lt y k))
    (λ g. ⊎_elim (λ m. absurd (omega arith)) (λ n. inr (g, n)) (cases_lt y k))
    (cases_lt x k)

-- words with the same cut above the degree are both in a flat pattern, or neither
pub flat_by_cut : (e : Pat) (k : ℕ) (v w : Word) → is_flat e ≡ true → degree_of e < k → In e v → cut_at k v ≡ cut_at k w → In e w
flat_by_cut e k v w f l i c =
    pumped e f v w i
    (λ t. ⊎_elim (λ s. inl s) (λ g. let g0 = g.0 in let g1 = g.1 in inr (omega arith, omega arith))
    (cut_cases k (v t) (w t) (count_eq (cut_at k v) (cut_at k w) c t)))
