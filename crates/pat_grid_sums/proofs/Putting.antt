-- Bits put in, one after another.
use Rattle.std.proofs.Common.{◌≡◌, ◌≢◌, ℕ, ◌+◌, ◌*◌, ◌/◌, ◌%◌, ◌^◌, ◌<◌, ◌≤◌, ◌⊎◌, inl, inr, ⊎_elim, List, [], ◌∷◌, ◌++◌, replicate, length, length-set, get_or, set, refl, sym, ap, ◌∙◌, subst, arith}
use Rattle.std.specs.Int.{bit_at, w64}
use Rattle.std.specs.Prelude.{bit_or}
use Rattle.std.proofs.lemmas.Bool.{cases_lt, cases_eq}
use Rattle.std.proofs.lemmas.List.{get_or-set_same, get_or-set_other, get_or_append_left, get_or_push, get_or_past, length_push, length-replicate}
use Rattle.std.proofs.lemmas.Nat.Bits.{bit_at_set_same, bit_at_set_other, bit_at_or, bit_at-lt, bit_at-zero}
use Rattle.pat_grid_points.proofs.Digits.{zero_at}
use Rattle.pat_grid_sums.specs.Sets.{In, Puts, AnyBefore, Lists}
use Rattle.pat_grid_sums.specs.Shapes.{Has}

pub puts_none : (P : ℕ → ℕ → Type 0) (x : List ℕ) → ((h q : ℕ) → P h q → ⊥) → Puts P x x
puts_none P x none = record {
  as_long = refl;
  kept = λ h q i. i;
  put = λ h q p. absurd (none h q p);
  only = λ h q i. inl i;
}

pub puts_as : (P Q : ℕ → ℕ → Type 0) (x y : List ℕ) → ((h q : ℕ) → P h q → Q h q) → ((h q : ℕ) → Q h q → P h q) → Puts P x y → Puts Q x y
puts_as P Q x y to from h = record {
  as_long = h.as_long;
  kept = h.kept;
  put = λ a q p. h.put a q (from a q p);
  only = λ a q i. ⊎_elim (λ o. inl o) (λ p. inr (to a q p)) (h.only a q i);
}

-- nothing yet
pub puts_begun : (P : ℕ → ℕ → ℕ → Type 0) (x : List ℕ) → Puts (AnyBefore P 0) x x
puts_begun P x = puts_none (AnyBefore P 0) x (λ h q p. let l = p.1 in absurd (omega arith))

-- one more
pub puts_more : (P : ℕ → ℕ → ℕ → Type 0) (m : ℕ) (x y z : List ℕ) → Puts (AnyBefore P m) x y → Puts (P m) y z → Puts (AnyBefore P (m + 1)) x z
puts_more P m x y z before here = record {
  as_long = here.as_long ∙ before.as_long;
  kept = λ h q i. here.kept h q (before.kept h q i);
  put = λ h q p. ⊎_elim
      (λ (l : p.0 < m). here.kept h q (before.put h q (p.0, l, p.2)))
      (λ (l : m ≤ p.0). let k = p.1 in let e : p.0 ≡ m = omega arith in here.put h q (subst (λ i. P i h q) e p.2))
      (cases_lt p.0 m);
  only = λ h q i. ⊎_elim
      (λ old. ⊎_elim (λ o. inl o) (λ p. let l = p.1 in inr (p.0, omega arith, p.2)) (before.only h q old))
      (λ p. inr (m, omega arith, p))
      (here.only h q i);
}

-- where one word is exchanged
words_same : (words : List ℕ) (word x : ℕ) → word < length words → get_or (set words word x) word 0 ≡ x
words_same words word x l = get_or-set_same words word x 0 l

pub puts_word : (P : ℕ → ℕ → Type 0) (words new : List ℕ) (word x : ℕ) → word < length words → new ≡ set words word x → ((q : ℕ) → bit_at (get_or words word 0) q ≡ 1 → bit_at x q ≡ 1) → ((h q : ℕ) → P h q → (h ≡ word) × (bit_at x q ≡ 1)) → ((q : ℕ) → bit_at x q ≡ 1 → (bit_at (get_or words word 0) q ≡ 1) ⊎ P word q) → Puts P words new
puts_word P words new word x l e grows in_it out =
    let at : get_or new word 0 ≡ x = ap (λ ws. get_or ws word 0) e ∙ words_same words word x l in
    let else_ : (h : ℕ) → h ≢ word → get_or new h 0 ≡ get_or words h 0 = λ h n. ap (λ ws. get_or ws h 0) e ∙ get_or-set_other words word h x 0 n in
    record {
      as_long = ap length e ∙ length-set words word x;
      kept = λ h q i. ⊎_elim
          (λ same. subst (λ a. In new a q) (sym same) (ap (λ w. bit_at w q) at ∙ grows q (subst (λ a. In words a q) same i)))
          (λ n. ap (λ w. bit_at w q) (else_ h n) ∙ i)
          (cases_eq h word);
      put = λ h q p. let t = in_it h q p in subst (λ a. In new a q) (sym t.0) (ap (λ w. bit_at w q) at ∙ t.1);
      only = λ h q i. ⊎_elim
          (λ same. ⊎_elim
          (λ old. inl (subst (λ a. In words a q) (sym same) old))
          (λ p. inr (subst (λ a. P a q) (sym same) p))
          (out q (sym (ap (λ w. bit_at w q) at) ∙ subst (λ a. In new a q) same i)))
          (λ n. inl (sym (ap (λ w. bit_at w q) (else_ h n)) ∙ i))
          (cases_eq h word);
    }

pub puts_bit : (words new : List ℕ) (word bit : ℕ) → word < length words → bit < 64 → new ≡ set words word (bit_or (get_or words word 0) (1 * 2 ^ bit % 2 ^ 64)) → Puts (λ h q. (h ≡ word) × (q ≡ bit)) words new
puts_bit words new word bit l few e =
    let w = get_or words word 0 in
    puts_word (λ h q. (h ≡ word) × (q ≡ bit)) words new word (bit_or w (1 * 2 ^ bit % 2 ^ 64)) l e
    (λ q i. ⊎_elim
    (λ same. subst (λ b. bit_at (bit_or w (1 * 2 ^ bit % 2 ^ 64)) b ≡ 1) (sym same) (bit_at_set_same w64 w bit few))
    (λ n. bit_at_set_other w64 w bit few q n ∙ i)
    (cases_eq q bit))
    (λ h q p. (p.0, subst (λ b. bit_at (bit_or w (1 * 2 ^ bit % 2 ^ 64)) b ≡ 1) (sym p.1) (bit_at_set_same w64 w bit few)))
    (λ q i. ⊎_elim
    (λ same. inr (refl, same))
    (λ n. inl (sym (bit_at_set_other w64 w bit few q n) ∙ i))
    (cases_eq q bit))

pub puts_bits : (words new : List ℕ) (word bits : ℕ) → word < length words → new ≡ set words word (bit_or (get_or words word 0) bits) → Puts (λ h q. (h ≡ word) × (bit_at bits q ≡ 1)) words new
puts_bits words new word bits l e =
    let w = get_or words word 0 in
    puts_word (λ h q. (h ≡ word) × (bit_at bits q ≡ 1)) words new word (bit_or w bits) l e
    (λ q i. let o = bit_at_or w bits q in let b = bit_at-lt bits q in omega arith)
    (λ h q p. (p.0, let o = bit_at_or w bits q in let b = bit_at-lt w q in let one = p.1 in omega arith))
    (λ q i. ⊎_elim
    (λ one. inl one)
    (λ n. inr (refl, let o = bit_at_or w bits q in let a = bit_at-lt w q in let b = bit_at-lt bits q in omega arith))
    (cases_eq (bit_at w q) 1))

-- ---- from nothing

pub none_in : (count h q : ℕ) → In (replicate count 0) h q → ⊥
none_in count h q i =
    let a = ap (λ w. bit_at w q) (zero_at count h) in
    let b = bit_at-zero q in
    absurd (omega arith)

pub has_all : (P : ℕ → ℕ → Type 0) (count : ℕ) (words : List ℕ) → Puts P (replicate count 0) words → Has P count words
has_all P count words h = record {
  as_many = h.as_long ∙ length-replicate count 0;
  put = h.put;
  only = λ a q i. ⊎_elim (λ old. absurd (none_in count a q old)) (λ p. p) (h.only a q i);
}

pub has_as : (P Q : ℕ → ℕ → Type 0) (count : ℕ) (words : List ℕ) → ((h q : ℕ) → P h q → Q h q) → ((h q : ℕ) → Q h q → P h q) → Has P count words → Has Q count words
has_as P Q count words to from h = record {
  as_many = h.as_many;
  put = λ a q p. h.put a q (from a q p);
  only = λ a q i. to a q (h.only a q i);
}

-- ---- lists of numbers

pub list_begun : (words : List ℕ) (width : ℕ) → Lists words width 0 []
list_begun words width = record {
  all = λ c l i. absurd (omega arith);
  only = λ i l. absurd (omega arith);
}

pub list_added : (words : List ℕ) (width m : ℕ) (numbers : List ℕ) → In words (m / width) (m % width) → Lists words width m numbers → Lists words width (m + 1) (numbers ++ m ∷ [])
list_added words width m numbers here h =
    let more = length_push numbers m in
    let last : get_or (numbers ++ m ∷ []) (length numbers) 0 ≡ m = get_or_push numbers m 0 (length numbers) refl in
    record {
      all = λ c l i. ⊎_elim
          (λ (below : c < m). let t = h.all c below i in let k = t.1 in (t.0, omega arith, get_or_append_left numbers (m ∷ []) 0 t.0 t.1 ∙ t.2))
          (λ (past : m ≤ c). (length numbers, omega arith, last ∙ (let e : m ≡ c = omega arith in e)))
          (cases_lt c m);
      only = λ i l. ⊎_elim
          (λ (below : i < length numbers).
          let same = get_or_append_left numbers (m ∷ []) 0 i below in
          let t = h.only i below in
          let k = t.0 in
          (omega arith, subst (λ c. In words (c / width) (c % width)) (sym same) t.1))
          (λ (past : length numbers ≤ i).
          let e : length numbers ≡ i = omega arith in
          let at : get_or (numbers ++ m ∷ []) i 0 ≡ m = subst (λ j. get_or (numbers ++ m ∷ []) j 0 ≡ m) e last in
          (omega arith, subst (λ c. In words (c / width) (c % width)) (sym at) here))
          (cases_lt i (length numbers));
    }

pub list_passed : (words : List ℕ) (width m : ℕ) (numbers : List ℕ) → (In words (m / width) (m % width) → ⊥) → Lists words width m numbers → Lists words width (m + 1) numbers
list_passed words width m numbers none h = record {
  all = λ c l i. ⊎_elim
      (λ (below : c < m). h.all c below i)
      (λ (past : m ≤ c). let e : c ≡ m = omega arith in absurd (none (subst (λ d. In words (d / width) (d % width)) e i)))
      (cases_lt c m);
  only = λ i l. let t = h.only i l in let k = t.0 in (omega arith, t.1);
}

-- ---- whole sets

-- after what is there
pub has_more : (P Q : ℕ → ℕ → Type 0) (count : ℕ) (x y : List ℕ) → Has P count x → Puts Q x y → Has (λ h q. P h q ⊎ Q h q) count y
has_more P Q count x y had puts = record {
  as_many = puts.as_long ∙ had.as_many;
  put = λ h q t. ⊎_elim (λ p. puts.kept h q (had.put h q p)) (λ p. puts.put h q p) t;
  only = λ h q i. ⊎_elim (λ old. inl (had.only h q old)) (λ p. inr p) (puts.only h q i);
}

pub nothing_in : (h q : ℕ) → In [] h q → ⊥
nothing_in h q i = none_in 0 h q i

-- no word past the last has a bit
pub in_within : (words : List ℕ) (a q : ℕ) → In words a q → a < length words
in_within words a q i =
    ⊎_elim (λ l. l)
    (λ past. absurd (nothing_in a q (sym (ap (λ w. bit_at w q) (get_or_past words a 0 past)) ∙ i)))
    (cases_lt a (length words))

-- the words of a set, one after another
abbrev pub IsWordOf : List ℕ → ℕ → ℕ → ℕ → Type 0
IsWordOf more word h q = (h ≡ word) × (bit_at (get_or more word 0) q ≡ 1)

pub words_joined : (more x y : List ℕ) (m : ℕ) → m ≡ length more → Puts (AnyBefore (IsWordOf more) m) x y → Puts (In more) x y
words_joined more x y m e h =
    puts_as (AnyBefore (IsWordOf more) m) (In more) x y
    (λ a q t. subst (λ i. In more i q) (sym t.2.0) t.2.1)
    (λ a q i. (a, (let l = in_within more a q i in let k = e in omega arith), (refl, i)))
    h

-- where all words are alike they are the same
pub alike : (one other : List ℕ) (m : ℕ) → m ≡ length one → length one ≡ length other → ((h : ℕ) → h < m → get_or one h 0 ≡ get_or other h 0) → (h : ℕ) → get_or one h 0 ≡ get_or other h 0
alike one other m e long before h =
    ⊎_elim
    (λ l. before h l)
    (λ past. get_or_past one h 0 (omega arith) ∙ sym (get_or_past other h 0 (omega arith)))
    (cases_lt h m)
