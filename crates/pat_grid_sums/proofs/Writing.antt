-- Entries written, one after another.
use Rattle.std.proofs.Common.{◌≡◌, ◌≢◌, ℕ, ◌+◌, ◌-◌, ◌*◌, ◌/◌, ◌%◌, ◌^◌, ◌<◌, ◌≤◌, ◌⊎◌, inl, inr, ⊎_elim, Bool, true, false, List, [], replicate, length, length-set, get_or, set, refl, sym, ap, ap₂, ◌∙◌, subst, arith, mul-le-mul_right}
use Rattle.std.specs.Prelude.{IsTrue, ◌↔◌, if◌then◌else◌}
use Rattle.std.specs.Int.{bit_at}
use Rattle.std.proofs.lemmas.Bool.{cases_lt, cases_eq}
use Rattle.std.proofs.lemmas.Nat.{div-mul-add, mod-mul-add, shr-shr}
use Rattle.std.proofs.Math.Nat.{add-mul}
use Rattle.std.proofs.lemmas.Nat.Bits.{bit_at-lt, bit_at-zero, bit_at_ones}
use Rattle.std.proofs.lemmas.List.{get_or-set_same, get_or-set_other, get_or_past, get_or-replicate, length-replicate, length-map}
use Rattle.pat_words_spec.specs.Words.{Word}
use Rattle.pat_inclusion_spec.specs.bounds.CutSets.{IsPoint}
use Rattle.pat_inclusion_spec.specs.bounds.Tables.{IsKnown, HasTree}
use Rattle.pat_inclusion_spec.specs.bounds.Numbers.{points_in, number_of, table_of}
use Rattle.pat_inclusion_laws.proofs.NumberLaws.{number_small, passed_closed}
use Rattle.pat_grid_points.specs.Sparse.{IsFilled}
use Rattle.pat_grid_points.specs.symbols.Views.{symbol_view}
use Rattle.pat_grid_sums.specs.declared.shape.Shape.{Shape}
use Rattle.pat_grid_sums.specs.declared.system.System.{System}
use Rattle.pat_grid_sums.specs.Sets.{In}
use Rattle.pat_grid_sums.specs.Shapes.{IsShape}
use Rattle.pat_grid_sums.specs.Systems.{setting_in, set_at, table_in, IsSettled, AreReached, Written, WordWritten, EntriesTo}
use Rattle.pat_grid_sums.proofs.Splitting.{all_points}

-- ---- one word

pub word_begun : (words : List ℕ) (word from : ℕ) (x : List ℕ) → WordWritten words word from 0 x x
word_begun words word from x = (refl, λ q l. absurd (omega arith), λ i o. refl)

pub word_more : (words : List ℕ) (word from q : ℕ) (old x y : List ℕ) (wanted : Bool) → WordWritten words word from q old x → (IsTrue wanted ↔ In words word q) → y ≡ (if wanted then set x (from + q) 1 else x) → from + q < length x → get_or old (from + q) 2 ≡ 2 → WordWritten words word from (q + 1) old y
word_more words word from q old x y true h is e room none =
    let one : bit_at (get_or words word 0) q ≡ 1 = is.0 refl in
    let here : get_or (set x (from + q) 1) (from + q) 2 ≡ 1 = get_or-set_same x (from + q) 1 2 room in
    subst (WordWritten words word from (q + 1) old) (sym e) (
      length-set x (from + q) 1 ∙ h.0,
      λ r l. ⊎_elim
          (λ (less : r < q). get_or-set_other x (from + q) (from + r) 1 2 (λ f. absurd (omega arith)) ∙ h.1 r less)
          (λ (past : q ≤ r). let f : q ≡ r = omega arith in subst (λ i. get_or (set x (from + q) 1) (from + i) 2 ≡ 2 - bit_at (get_or words word 0) i) f (omega arith))
          (cases_lt r q),
      λ i o. get_or-set_other x (from + q) i 1 2 (λ f. ⊎_elim (λ l. absurd (omega arith)) (λ l. absurd (omega arith)) o)
          ∙ h.2 i (⊎_elim (λ l. inl l) (λ l. inr (omega arith)) o),
    )
word_more words word from q old x y false h is e room none =
    let few = bit_at-lt (get_or words word 0) q in
    let zero_ : bit_at (get_or words word 0) q ≡ 0 = no_bit (cases_eq (bit_at (get_or words word 0) q) 1) in
    let there : get_or x (from + q) 2 ≡ 2 = h.2 (from + q) (inr (omega arith)) ∙ none in
    subst (WordWritten words word from (q + 1) old) (sym e) (
      h.0,
      λ r l. ⊎_elim
          (λ (less : r < q). h.1 r less)
          (λ (past : q ≤ r). let f : q ≡ r = omega arith in subst (λ i. get_or x (from + i) 2 ≡ 2 - bit_at (get_or words word 0) i) f (omega arith))
          (cases_lt r q),
      λ i o. h.2 i (⊎_elim (λ l. inl l) (λ l. inr (omega arith)) o),
    )
  where
    no_bit : (bit_at (get_or words word 0) q ≡ 1) ⊎ (bit_at (get_or words word 0) q ≢ 1) → bit_at (get_or words word 0) q ≡ 0
    no_bit (inl one) = let f : false ≡ true = is.1 one in absurd (cc)
    no_bit (inr d) = let few = bit_at-lt (get_or words word 0) q in
        ⊎_elim (λ (l : bit_at (get_or words word 0) q < 1). omega arith) (λ (l : 1 ≤ bit_at (get_or words word 0) q). absurd (d (omega arith))) (cases_lt (bit_at (get_or words word 0) q) 1)

-- a word of no bit
pub word_none : (words : List ℕ) (word from width : ℕ) (old : List ℕ) → get_or words word 0 ≡ 0 → ((i : ℕ) → from ≤ i → i < from + width → get_or old i 2 ≡ 2) → WordWritten words word from width old old
word_none words word from width old e none = (
  refl,
  λ q l. let z = ap (λ w. bit_at w q) e in let b = bit_at-zero q in let o = none (from + q) (omega arith) (omega arith) in omega arith,
  λ i o. refl,
)

-- the first bits of ones that were shifted down to them
pub full_bits : (n width word q : ℕ) → word ≡ (2 ^ n - 1) / 2 ^ (n - width) → width ≤ n → q < width → bit_at word q ≡ 1
full_bits n width word q is within l =
    ap (λ w. bit_at w q) is ∙ ap (λ x. x % 2) (shr-shr (2 ^ n - 1) (n - width) q) ∙ bit_at_ones n ((n - width) + q) (omega arith)

-- a word of all bits
pub word_all : (words : List ℕ) (word from width : ℕ) (old new : List ℕ) → ((q : ℕ) → q < width → bit_at (get_or words word 0) q ≡ 1) → IsFilled from width 1 old new → WordWritten words word from width old new
word_all words word from width old new all f = (
  f.as_long,
  λ q l. let one = all q l in let there = f.here (from + q) 2 (omega arith) (omega arith) in omega arith,
  λ i o. f.elsewhere i 2 o,
)

-- ---- the words of a set

pub set_begun : (words : List ℕ) (width from : ℕ) (x : List ℕ) → Written words width from 0 x x
set_begun words width from x = record { as_long = refl; here = λ c l. absurd (omega arith); elsewhere = λ i o. refl }

pub set_more : (words : List ℕ) (width from word : ℕ) (old x y : List ℕ) → Written words width from (word * width) old x → WordWritten words word (from + word * width) width x y → Written words width from ((word + 1) * width) old y
set_more words width from word old x y h w =
    let more = add-mul word 1 width in
    record {
      as_long = w.0 ∙ h.as_long;
      here = λ c l. ⊎_elim
          (λ (less : c < word * width). w.2 (from + c) (inl (omega arith)) ∙ h.here c less)
          (λ (past : word * width ≤ c).
          let q = c - word * width in
          let small : q < width = omega arith in
          let is : word * width + q ≡ c = omega arith in
          let div : c / width ≡ word = ap (λ i. i / width) (sym is) ∙ div-mul-add word width q small in
          let rest : c % width ≡ q = ap (λ i. i % width) (sym is) ∙ mod-mul-add word width q small in
          let at = ap (λ i. get_or y i 2) (let e : from + c ≡ from + word * width + q = omega arith in e) in
          at ∙ w.1 q small ∙ ap₂ (λ i j. 2 - bit_at (get_or words i 0) j) (sym div) (sym rest))
          (cases_lt c (word * width));
      elsewhere = λ i o.
          w.2 i (⊎_elim (λ l. inl (omega arith)) (λ l. inr (omega arith)) o)
          ∙ h.elsewhere i (⊎_elim (λ l. inl l) (λ l. inr (omega arith)) o);
    }

-- ---- all sets

pub entries_begun : (sets : List (List ℕ)) (width points : ℕ) (x : List ℕ) → length x ≡ length sets * points → ((i : ℕ) → get_or x i 2 ≡ 2) → EntriesTo sets width points 0 x
entries_begun sets width points x long none = record { as_long = long; here = λ s c l m. absurd (omega arith); later = λ i l. none i }

pub entries_more : (sets : List (List ℕ)) (width points s m : ℕ) (words old new : List ℕ) → words ≡ set_at sets s → m ≡ points → EntriesTo sets width points s old → Written words width (s * points) m old new → EntriesTo sets width points (s + 1) new
entries_more sets width points s m words old new is many h w =
    let more = add-mul s 1 points in
    record {
      as_long = w.as_long ∙ h.as_long;
      here = λ t c l k. ⊎_elim
          (λ (less : t < s).
          let grown : (t + 1) * points ≤ s * points = mul-le-mul_right points (omega arith) in
          let apart = add-mul t 1 points in
          w.elsewhere (t * points + c) (inl (omega arith)) ∙ h.here t c less k)
          (λ (past : s ≤ t).
          let e : s ≡ t = omega arith in
          subst (λ i. get_or new (i * points + c) 2 ≡ 2 - bit_at (get_or (set_at sets i) (c / width) 0) (c % width)) e
          (subst (λ ws. get_or new (s * points + c) 2 ≡ 2 - bit_at (get_or ws (c / width) 0) (c % width)) is (w.here c (omega arith))))
          (cases_lt t s);
      later = λ i l. w.elsewhere i (inr (omega arith)) ∙ h.later i (omega arith);
    }

pub entries_reached : (y : System) (sh : Shape) (sets : List (List ℕ)) (points : ℕ) (entries : List ℕ) → IsShape y.k y.tags sh → points ≡ sh.words * sh.width → IsSettled (setting_in y) sh.width sh.words (length y.symbols.now) sets → EntriesTo sets sh.width points (length sets) entries → AreReached (setting_in y) entries
entries_reached y sh sets points entries shape many settled h =
    let g = setting_in y in
    let all : points ≡ points_in y.k y.tags = many ∙ all_points y.k y.tags sh shape in
    record {
      all = h.as_long ∙ ap₂ (λ i j. i * j) (settled.are.as_many ∙ sym (length-map y.symbols.now symbol_view)) all;
      closed = passed_closed g (table_in g sh.width sets) (table_of g entries) (λ s u size p step. let l = settled.closed s u size p step in let e = same s u p in omega arith) same;
      sound = λ s u p known. subst (HasTree g s u) (same s u p) (settled.sound s u p (subst (IsKnown 0) (sym (same s u p)) known));
    }
  where
    same : (s : ℕ) (u : Word) → IsPoint y.k y.tags u → table_in (setting_in y) sh.width sets s u ≡ table_of (setting_in y) entries s u
    same s u p =
        let c = number_of y.k y.tags u in
        let all : points ≡ points_in y.k y.tags = many ∙ all_points y.k y.tags sh shape in
        let small = number_small y.k y.tags u p in
        let at = ap (λ i. get_or entries (s * i + c) 2) all in
        ⊎_elim
        (λ (l : s < length sets). sym (h.here s c l (omega arith)) ∙ at)
        (λ (past : length sets ≤ s).
        let grown : length sets * points ≤ s * points = mul-le-mul_right points past in
        let long = h.as_long in
        let none = get_or_past entries (s * points + c) 2 (omega arith) in
        let gone = ap (λ ws. bit_at (get_or ws (c / sh.width) 0) (c % sh.width)) (get_or_past sets s [] past) in
        let zero_ = ap (λ w. bit_at w (c % sh.width)) (get_or_past [] (c / sh.width) 0 (omega arith)) in
        let b = bit_at-zero (c % sh.width) in
        (let e : table_in (setting_in y) sh.width sets s u ≡ 2 = omega arith in e) ∙ sym none ∙ at)
        (cases_lt s (length sets))

-- ---- rooms

pub few_points : (k n : ℕ) (s : Shape) → IsShape k n s → s.words * s.width ≤ 65536
few_points k n s shape = let all = all_points k n s shape in let few = shape.few in omega arith

pub entries_room : (s m points : ℕ) → s < m → s * points + points ≤ m * points
entries_room s m points l =
    let grown : (s + 1) * points ≤ m * points = mul-le-mul_right points (omega arith) in
    let more = add-mul s 1 points in
    omega arith

pub few_entries : (s m points : ℕ) → s ≤ m → m < 2097152 → points ≤ 65536 → s * points ≤ 137438953472
few_entries s m points l few small =
    let a : s * points ≤ m * points = mul-le-mul_right points l in
    let b : m * points ≤ 2097152 * points = mul-le-mul_right points (omega arith) in
    omega arith

pub replicated : (n i : ℕ) → get_or {A = ℕ} (replicate n 2) i 2 ≡ 2
replicated n i =
    ⊎_elim (λ l. get_or-replicate n i 2 2 l) (λ l. get_or_past (replicate n 2) i 2 (let e : length {A = ℕ} (replicate n 2) ≡ n = length-replicate n 2 in omega arith)) (cases_lt i n)
