-- Bits of a word that go farther.
use Rattle.std.proofs.Common.{◌≡◌, ℕ, ◌+◌, ◌-◌, ◌*◌, ◌/◌, ◌%◌, ◌^◌, ◌<◌, ◌≤◌, ⊎_elim, List, length, get_or, refl, sym, ap, ◌∙◌, subst, arith}
use Rattle.std.specs.Int.{bit_at}
use Rattle.std.specs.Prelude.{bit_and, bit_or}
use Rattle.std.proofs.lemmas.Bool.{cases_lt}
use Rattle.std.proofs.lemmas.Nat.{div-add-mod'}
use Rattle.std.proofs.Math.Nat.{mod-lt, one-le-pow}
use Rattle.std.proofs.lemmas.Nat.Bits.{bit_at_and, bit_at_or, bit_at-lt, bit_at-zero, bit_at_above, bit_at_cat_low, bit_at_cat_high}
use Rattle.pat_grid_sums.specs.Sets.{In, Puts, AnyBefore, IsMovedAny, GoesBy, IsShifted, IsShiftedAny}
use Rattle.pat_grid_sums.specs.Shapes.{Has}
use Rattle.pat_grid_sums.proofs.Putting.{puts_none, puts_as, has_as}

-- a bit below k is that of the rest by 2 ^ k
low_bit : (x k q : ℕ) → q < k → bit_at (x % 2 ^ k) q ≡ bit_at x q
low_bit x k q l =
    let parts : x / 2 ^ k * 2 ^ k + x % 2 ^ k ≡ x = div-add-mod' x (2 ^ k) in
    sym (bit_at_cat_low (x / 2 ^ k) k (x % 2 ^ k) q l) ∙ ap (λ y. bit_at y q) parts

some_power : (k : ℕ) → 0 < 2 ^ k
some_power k = let l : 1 ≤ 2 ^ k = one-le-pow k 2 (omega arith) in omega arith

-- behind the places that are free
high_bit : (x by q : ℕ) → by ≤ q → bit_at (x * 2 ^ by) q ≡ bit_at x (q - by)
high_bit x by q l =
    ap (λ y. bit_at y q) (let e : x * 2 ^ by ≡ x * 2 ^ by + 0 = omega arith in e) ∙ bit_at_cat_high x by 0 q (some_power by) l

free_bit : (x by q : ℕ) → q < by → bit_at (x * 2 ^ by) q ≡ 0
free_bit x by q l =
    ap (λ y. bit_at y q) (let e : x * 2 ^ by ≡ x * 2 ^ by + 0 = omega arith in e) ∙ bit_at_cat_low x by 0 q l ∙ bit_at-zero q

module _ (x by : ℕ) where
  pub bit_goes : (p : ℕ) → bit_at x p ≡ 1 → p + by < 64 → bit_at (x * 2 ^ by % 2 ^ 64) (p + by) ≡ 1
  bit_goes p one room =
      let e : p + by - by ≡ p = omega arith in
      low_bit (x * 2 ^ by) 64 (p + by) room ∙ high_bit x by (p + by) (omega arith) ∙ ap (bit_at x) e ∙ one

  pub bit_came : (q : ℕ) → bit_at (x * 2 ^ by % 2 ^ 64) q ≡ 1 → (p : ℕ) × (bit_at x p ≡ 1) × (q ≡ p + by)
  bit_came q one =
      ⊎_elim
      (λ (l : q < 64). ⊎_elim
      (λ (free : q < by). let a = low_bit (x * 2 ^ by) 64 q l in let b = free_bit x by q free in absurd (omega arith))
      (λ (there : by ≤ q). let a = low_bit (x * 2 ^ by) 64 q l in let b = high_bit x by q there in (q - by, omega arith, omega arith))
      (cases_lt q by))
      (λ (past : 64 ≤ q). let z = bit_at_above (x * 2 ^ by % 2 ^ 64) 64 q (mod-lt (x * 2 ^ by) (some_power 64)) past in absurd (omega arith))
      (cases_lt q 64)

both_bits : (a b p : ℕ) → bit_at (bit_and a b) p ≡ 1 → (bit_at a p ≡ 1) × (bit_at b p ≡ 1)
both_bits a b p one =
    let e = bit_at_and a b p in
    let l = bit_at-lt a p in
    let m = bit_at-lt b p in
    (omega arith, omega arith)

bits_both : (a b p : ℕ) → bit_at a p ≡ 1 → bit_at b p ≡ 1 → bit_at (bit_and a b) p ≡ 1
bits_both a b p one other = let e = bit_at_and a b p in omega arith

-- one word goes by one mask
pub word_shifted : (others : List ℕ) (mask by word x bits : ℕ) (old new : List ℕ) → x ≡ get_or others word 0 → bits ≡ bit_and x mask * 2 ^ by % 2 ^ 64 → ((p : ℕ) → bit_at mask p ≡ 1 → p + by < 64) → Puts (λ h q. (h ≡ word) × (bit_at bits q ≡ 1)) old new → Puts (IsShifted others mask by word) old new
word_shifted others mask by word x bits old new is e room h =
    puts_as (λ a q. (a ≡ word) × (bit_at bits q ≡ 1)) (IsShifted others mask by word) old new
    (λ a q t.
    let came = bit_came (bit_and x mask) by q (subst (λ b. bit_at b q ≡ 1) e t.1) in
    let both = both_bits x mask came.0 came.1 in
    (t.0, (came.0, subst (λ w. bit_at w came.0 ≡ 1) is both.0, both.1, came.2)))
    (λ a q t.
    let p = t.1.0 in
    let goes = bit_goes (bit_and x mask) by p (bits_both x mask p (subst (λ w. bit_at w p ≡ 1) (sym is) t.1.1) t.1.2) (room p t.1.2) in
    (t.0, subst (λ b. bit_at b q ≡ 1) (sym e) (subst (λ r. bit_at (bit_and x mask * 2 ^ by % 2 ^ 64) r ≡ 1) (sym t.1.3) goes)))
    h

-- no word goes by none
pub none_shifted : (others : List ℕ) (mask by : ℕ) (words : List ℕ) → mask ≡ 0 → Puts (AnyBefore (IsShifted others mask by) (length others)) words words
none_shifted others mask by words e =
    puts_none (AnyBefore (IsShifted others mask by) (length others)) words
    (λ h q t. let p = t.2.1.0 in let z = bit_at-zero p in let one = subst (λ m. bit_at m p ≡ 1) e t.2.1.2 in absurd (omega arith))

-- by all masks all go where the row says
pub all_shifted : (others row masks words : List ℕ) → ((p : ℕ) → p < length row → p ≤ get_or row p 0) → Has (AnyBefore (GoesBy row) (length row)) 64 masks → ((p : ℕ) → p < length row → get_or row p 0 < 64) → Has (AnyBefore (IsShiftedAny others masks) 64) (length others) words → Has (AnyBefore (IsMovedAny others row) (length others)) (length others) words
all_shifted others row masks words rises masked below h =
    has_as (AnyBefore (IsShiftedAny others masks) 64) (AnyBefore (IsMovedAny others row) (length others)) (length others) words
    (λ a q t.
    let by = t.0 in
    let w = t.2.0 in
    let s = t.2.2 in
    let p = s.1.0 in
    let m = masked.only by p s.1.2 in
    let l : p < length row = subst (λ i. i < length row) (sym m.2.1) m.1 in
    let d : by ≡ get_or row p 0 - p = subst (λ i. by ≡ get_or row i 0 - i) (sym m.2.1) m.2.0 in
    let r = rises p l in
    let e = s.1.3 in
    (w, t.2.1, (p, l, (s.1.1, s.0, (let i : q ≡ get_or row p 0 = omega arith in i)))))
    (λ a q t.
    let w = t.0 in
    let p = t.2.0 in
    let l = t.2.1 in
    let m = t.2.2 in
    let r = rises p l in
    let b = below p l in
    let by = get_or row p 0 - p in
    let e = m.2 in
    (by, (let i : by < 64 = omega arith in i), (w, t.1, (m.1, (p, m.0, masked.put by p (p, l, (refl, refl)), (let i : q ≡ p + by = omega arith in i))))))
    h

-- where a mask has a place, the row brings it so much farther, and that is in a word
pub mask_room : (row masks : List ℕ) → ((p : ℕ) → p < length row → (p ≤ get_or row p 0) × (get_or row p 0 < 64)) → Has (AnyBefore (GoesBy row) (length row)) 64 masks → (by p : ℕ) → In masks by p → p + by < 64
mask_room row masks within masked by p i =
    let m = masked.only by p i in
    let l : p < length row = subst (λ j. j < length row) (sym m.2.1) m.1 in
    let d : by ≡ get_or row p 0 - p = subst (λ j. by ≡ get_or row j 0 - j) (sym m.2.1) m.2.0 in
    let r = within p l in
    omega arith

-- one word more
pub bits_more : (words : List ℕ) (m bits x new : ℕ) → x ≡ get_or words m 0 → new ≡ bit_or bits x → ((h q : ℕ) → h < m → In words h q → bit_at bits q ≡ 1) → (h q : ℕ) → h < m + 1 → In words h q → bit_at new q ≡ 1
bits_more words m bits x new is e before h q l i =
    let o = bit_at_or bits x q in
    let a = bit_at-lt bits q in
    let b = bit_at-lt x q in
    let at = ap (λ y. bit_at y q) e in
    ⊎_elim
    (λ (less : h < m). let one = before h q less i in omega arith)
    (λ (past : m ≤ h). let same : h ≡ m = omega arith in let one : bit_at x q ≡ 1 = ap (λ y. bit_at y q) is ∙ subst (λ j. In words j q) same i in omega arith)
    (cases_lt h m)
