-- Integers are read as they are written.
use Rattle.std.proofs.Common.{◌≡◌, ℕ, zero, suc, ◌+◌, ◌*◌, ◌-◌, ◌<◌, ◌≤◌, ◌==◌, ◌^◌, ℤ, pos, negsuc, Bool, true, false, List, [], ◌∷◌, length, get_or, refl, sym, ap, ◌∙◌, subst, arith, if◌then◌else◌}
use Rattle.std.specs.Prelude.{Some, None, option_map, option_and_then, nat_le, ◌&&◌}
use Rattle.std.specs.List.{list_all}
use Rattle.std.specs.Fmt.{decimal, signed_decimal}
use Rattle.std.specs.Char.{digit_value}
use Rattle.std.specs.Str.Parse.{AllDigits, digits_value_after}
use Rattle.std.proofs.lemmas.Bool.{and_parts, and_from, leb-true, le-leb, eqb-true, eq-eqb, ne_eqb}
use Rattle.std.proofs.lemmas.Str.{digit_value_digit}
use Rattle.std.proofs.lemmas.Str.Parse.{digit_from_value, numerals_by_value, tells_digits}
use Rattle.std.proofs.lemmas.Fmt.{decimal_is_IsNumeral, first_decimal, decimal-digits_value, decimal_digit}
use Rattle.pat_texts_spec.specs.Numbers.{is_digit}
use Rattle.pat_texts_spec.proofs.Choices.{taken, untaken, passed, skipped, made, made_next}
use Rattle.pat_texts_spec.proofs.CutAgain.{within, wider}
use Rattle.pat_checkpoint_spec.specs.text.Integers.{is_integer, read_more, read_natural, negative, read_integer}

-- the value of a digit
digit_is : (b : ℕ) → is_digit b ≡ true → digit_value b ≡ b - 48
digit_is b h = let k = and_parts (nat_le 48 b) (nat_le b 57) h in let low = leb-true 48 b k.0 in let high = leb-true b 57 k.1 in omega (arith, low, high, digit_value_digit b (low, high))

record ReadDigits (limit n : ℕ) (bs : List ℕ) (m : ℕ) : Type 0 where
  digits : AllDigits 10 bs
  value : digits_value_after 10 n bs ≡ m
  small : m ≤ limit

digits_read : (limit n : ℕ) (bs : List ℕ) (m : ℕ) → n ≤ limit → read_more limit n bs ≡ Some m → ReadDigits limit n bs m
digits_read limit n [] m s e = let same : n ≡ m = cc in record { digits = tt; value = same; small = subst (λ k. k ≤ limit) same s }
digits_read limit n (b ∷ bs) m s e =
    let next = n * 10 + (b - 48) in
    let t = taken (is_digit b && nat_le next limit) (read_more limit next bs) m e in
    let both = and_parts (is_digit b) (nat_le next limit) t.0 in
    let k = digit_is b both.0 in
    let r = digits_read limit next bs m (leb-true next limit both.1) t.1 in
    let l = and_parts (nat_le 48 b) (nat_le b 57) both.0 in
    record {
      digits = (omega (arith, k, leb-true b 57 l.1), r.digits);
      value = ap (λ d. digits_value_after 10 (n * 10 + d) bs) k ∙ r.value;
      small = r.small;
    }

grows : (n : ℕ) (ds : List ℕ) → n ≤ digits_value_after 10 n ds
grows n [] = omega arith
grows n (c ∷ cs) = omega (arith, grows (n * 10 + digit_value c) cs)

read_all : (limit n : ℕ) (ds : List ℕ) → AllDigits 10 ds → digits_value_after 10 n ds ≤ limit → read_more limit n ds ≡ Some (digits_value_after 10 n ds)
read_all limit n [] d small = refl
read_all limit n (c ∷ cs) d small =
    let k = digit_from_value c d.0 in
    let is : digit_value c ≡ c - 48 = omega (arith, digit_value_digit c k) in
    let m : ℕ = n * 10 + digit_value c in
    let next = n * 10 + (c - 48) in
    let same : next ≡ m = omega (arith, is) in
    let room = grows m cs in
    let test : (is_digit c && nat_le next limit) ≡ true = and_from (is_digit c) (nat_le next limit) (and_from (nat_le 48 c) (nat_le c 57) (le-leb 48 c k.0) (le-leb c 57 k.1)) (le-leb next limit (omega (arith, same, room, small))) in
    passed (is_digit c && nat_le next limit) (read_more limit next cs) None test
    ∙ ap (λ j. read_more limit j cs) same ∙ read_all limit m cs d.1 small

module _ (limit : ℕ) (bound : limit < 2 ^ 64) where
  -- what is read is a number's text, and no zero stands in front
  natural_spelled : (bs : List ℕ) (n : ℕ) → read_natural limit bs ≡ Some n → (bs ≡ decimal n) × (n ≤ limit)
  natural_spelled [] n e = absurd cc
  natural_spelled (b ∷ []) n e = of (b ∷ []) n (digits_read limit 0 (b ∷ []) n (omega arith) e) (omega arith) (λ _. refl)
    where
      of : (bs : List ℕ) (n : ℕ) → ReadDigits limit 0 bs n → 0 < length bs → (get_or bs 0 0 ≡ 48 → length bs ≡ 1) → (bs ≡ decimal n) × (n ≤ limit)
      of bs n r some lead =
          (sym (decimal-digits_value (numerals_by_value (AllDigits 10) tells_digits) bs r.digits some lead (omega (arith, r.value, r.small, bound))) ∙ ap decimal r.value, r.small)
  natural_spelled (b ∷ c ∷ bs) n e =
      let t = untaken (b == 48) (read_more limit 0 (b ∷ c ∷ bs)) n e in
      let r = digits_read limit 0 (b ∷ c ∷ bs) n (omega arith) t.1 in
      (sym (decimal-digits_value (numerals_by_value (AllDigits 10) tells_digits) (b ∷ c ∷ bs) r.digits (omega arith) (λ z. absurd (clash b z t.0)) (omega (arith, r.value, r.small, bound))) ∙ ap decimal r.value, r.small)
    where
      clash : (b : ℕ) → b ≡ 48 → (b == 48) ≡ false → ⊥
      clash b z f = let yes = eq-eqb b 48 z in cc

  read_one : (bs : List ℕ) (n : ℕ) → 0 < length bs → (1 < length bs → 48 < get_or bs 0 0) → read_more limit 0 bs ≡ Some n → read_natural limit bs ≡ Some n
  read_one [] n some lead e = absurd (omega arith)
  read_one (b ∷ []) n some lead e = e
  read_one (b ∷ c ∷ bs) n some lead e =
      skipped (b == 48) None (read_more limit 0 (b ∷ c ∷ bs)) (ne_eqb b 48 (λ z. omega (arith, z, lead (omega arith)))) ∙ e

  -- each number up to the limit is read
  natural_read : (n : ℕ) → n ≤ limit → read_natural limit (decimal n) ≡ Some n
  natural_read n small =
      let k = decimal_is_IsNumeral n (omega (arith, small, bound)) in
      read_one (decimal n) n k.0.0 (lead n small) (read_all limit 0 (decimal n) k.0.1 (omega (arith, k.1, small)) ∙ ap Some k.1)
    where
      lead : (n : ℕ) → n ≤ limit → 1 < length (decimal n) → 48 < get_or (decimal n) 0 0
      lead zero small l = absurd (omega (arith, l, ap length (decimal_digit 0 (omega arith))))
      lead (suc n) small l = first_decimal (suc n) (omega arith) (omega (arith, small, bound))

digits_within : (ds : List ℕ) → AllDigits 10 ds → list_all (within 48 57) ds ≡ true
digits_within [] d = refl
digits_within (c ∷ cs) d =
    let k = digit_from_value c d.0 in
    and_from (within 48 57 c) (list_all (within 48 57) cs) (and_from (nat_le 48 c) (nat_le c 57) (le-leb 48 c k.0) (le-leb c 57 k.1)) (digits_within cs d.1)

-- the text of a number of 64 bits has digits alone, and some
record Digits (n : ℕ) : Type 0 where
  within : list_all (within 48 57) (decimal n) ≡ true
  some : 0 < length (decimal n)

digits_of : (n : ℕ) → n < 2 ^ 64 → Digits n
digits_of n small = let k = decimal_is_IsNumeral n small in record { within = digits_within (decimal n) k.0.1; some = k.0.0 }

-- no minus stands before digits
no_minus : (bs : List ℕ) → list_all (within 48 57) bs ≡ true → 0 < length bs → read_integer bs ≡ option_map pos (read_natural 9223372036854775807 bs)
no_minus [] w some = absurd (omega (arith, some))
no_minus (b ∷ bs) w some =
    let k = and_parts (within 48 57 b) (list_all (within 48 57) bs) w in
    let low = leb-true 48 b (and_parts (nat_le 48 b) (nat_le b 57) k.0).0 in
    skipped (b == 45) (option_and_then negative (read_natural 9223372036854775808 bs)) (option_map pos (read_natural 9223372036854775807 (b ∷ bs))) (ne_eqb b 45 (λ z. omega (arith, z, low)))

pub integer_read : (n : ℤ) → is_integer n ≡ true → read_integer (signed_decimal n) ≡ Some n
integer_read (pos n) s =
    let small = leb-true n 9223372036854775807 s in
    let d = digits_of n (omega (arith, small)) in
    no_minus (decimal n) d.within d.some ∙ ap (option_map pos) (natural_read 9223372036854775807 (omega arith) n small)
integer_read (negsuc n) s =
    let small = leb-true n 9223372036854775807 s in
    ap (option_and_then negative) (natural_read 9223372036854775808 (omega arith) (suc n) (omega (arith, small)))

pub integer_spelled : (bs : List ℕ) (n : ℤ) → read_integer bs ≡ Some n → (bs ≡ signed_decimal n) × (is_integer n ≡ true)
integer_spelled [] n e = absurd cc
integer_spelled (b ∷ bs) n e = by (b == 45) refl e
  where
    below : (k : ℕ) → k ≤ 9223372036854775808 → negative k ≡ Some n → bs ≡ decimal k → (45 ∷ bs ≡ signed_decimal n) × (is_integer n ≡ true)
    below zero l e is = absurd cc
    below (suc k) l e is = let same : negsuc k ≡ n = cc in subst (λ n. (45 ∷ bs ≡ signed_decimal n) × (is_integer n ≡ true)) same (ap (λ w. 45 ∷ w) is, le-leb k 9223372036854775807 (omega (arith, l)))

    by : (t : Bool) → (b == 45) ≡ t → (if t then option_and_then negative (read_natural 9223372036854775808 bs) else option_map pos (read_natural 9223372036854775807 (b ∷ bs))) ≡ Some n → (b ∷ bs ≡ signed_decimal n) × (is_integer n ≡ true)
    by true t e =
        let m = made_next negative (read_natural 9223372036854775808 bs) n e in
        let k = natural_spelled 9223372036854775808 (omega arith) bs m.from m.there in
        let w = below m.from k.1 m.is k.0 in
        (ap (λ c. c ∷ bs) (eqb-true b 45 t) ∙ w.0, w.1)
    by false t e =
        let m = made pos (read_natural 9223372036854775807 (b ∷ bs)) n e in
        let k = natural_spelled 9223372036854775807 (omega arith) (b ∷ bs) m.from m.there in
        subst (λ n. (b ∷ bs ≡ signed_decimal n) × (is_integer n ≡ true)) m.is (k.0, le-leb m.from 9223372036854775807 k.1)

-- the bytes of an integer: digits, and perhaps a minus before them
pub integer_within : (n : ℤ) → is_integer n ≡ true → list_all (within 45 57) (signed_decimal n) ≡ true
integer_within (pos n) s =
    let small = leb-true n 9223372036854775807 s in
    wider 48 57 45 57 (omega arith) (omega arith) (decimal n) (digits_of n (omega (arith, small))).within
integer_within (negsuc n) s =
    let small = leb-true n 9223372036854775807 s in
    wider 48 57 45 57 (omega arith) (omega arith) (decimal (suc n)) (digits_of (suc n) (omega (arith, small))).within

pub integer_some : (n : ℤ) → is_integer n ≡ true → 0 < length (signed_decimal n)
integer_some (pos n) s = let small = leb-true n 9223372036854775807 s in (digits_of n (omega (arith, small))).some
integer_some (negsuc n) s = omega arith
