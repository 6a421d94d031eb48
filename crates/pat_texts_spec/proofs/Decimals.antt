-- Numbers are read as they are written.
use Rattle.std.proofs.Common.{◌≡◌, ℕ, zero, suc, ◌+◌, ◌*◌, ◌-◌, ◌<◌, ◌≤◌, ◌==◌, ◌^◌, Bool, true, false, List, [], ◌∷◌, length, get_or, refl, sym, ap, ◌∙◌, subst, arith, if◌then◌else◌}
use Rattle.std.specs.Prelude.{Option, Some, None, nat_le, ◌&&◌}
use Rattle.std.specs.Fmt.{decimal}
use Rattle.std.specs.Char.{digit_value}
use Rattle.std.specs.Str.Parse.{AllDigits, digits_value, digits_value_after}
use Rattle.std.proofs.lemmas.Bool.{and_parts, and_from, leb-true, le-leb, eqb-true, eq-eqb, ne_eqb}
use Rattle.std.proofs.lemmas.Str.{digit_value_digit}
use Rattle.std.proofs.lemmas.Str.Parse.{digit_from_value, numerals_by_value, tells_digits}
use Rattle.std.proofs.lemmas.Fmt.{decimal_is_IsNumeral, first_decimal, decimal-digits_value, decimal_digit}
use Rattle.pat_texts_spec.specs.Numbers.{is_number, is_digit, read_digits, read_number}
use Rattle.pat_texts_spec.proofs.Choices.{taken, untaken, passed, skipped}
use Rattle.pat_limits.specs.Limits.{most_number}

-- the value of a digit
digit_is : (b : ℕ) → is_digit b ≡ true → digit_value b ≡ b - 48
digit_is b h = let k = and_parts (nat_le 48 b) (nat_le b 57) h in let low = leb-true 48 b k.0 in let high = leb-true b 57 k.1 in omega (arith, low, high, digit_value_digit b (low, high))

record ReadDigits (n : ℕ) (bs : List ℕ) (m : ℕ) : Type 0 where
  digits : AllDigits 10 bs
  value : digits_value_after 10 n bs ≡ m
  small : is_number m ≡ true

digits_read : (n : ℕ) (bs : List ℕ) (m : ℕ) → is_number n ≡ true → read_digits n bs ≡ Some m → ReadDigits n bs m
digits_read n [] m s e = let same : n ≡ m = cc in record { digits = tt; value = same; small = subst (λ k. is_number k ≡ true) same s }
digits_read n (b ∷ bs) m s e =
    let t = taken (is_digit b && is_number (n * 10 + (b - 48))) (read_digits (n * 10 + (b - 48)) bs) m e in
    let both = and_parts (is_digit b) (is_number (n * 10 + (b - 48))) t.0 in
    let k = digit_is b both.0 in
    let r = digits_read (n * 10 + (b - 48)) bs m both.1 t.1 in
    let l = and_parts (nat_le 48 b) (nat_le b 57) both.0 in
    record {
      digits = (omega (arith, k, leb-true b 57 l.1), r.digits);
      value = ap (λ d. digits_value_after 10 (n * 10 + d) bs) k ∙ r.value;
      small = r.small;
    }

grows : (n : ℕ) (ds : List ℕ) → n ≤ digits_value_after 10 n ds
grows n [] = omega arith
grows n (c ∷ cs) = omega (arith, grows (n * 10 + digit_value c) cs)

read_all : (n : ℕ) (ds : List ℕ) → AllDigits 10 ds → digits_value_after 10 n ds ≤ most_number → read_digits n ds ≡ Some (digits_value_after 10 n ds)
read_all n [] d small = refl
read_all n (c ∷ cs) d small =
    let k = digit_from_value c d.0 in
    let is : digit_value c ≡ c - 48 = omega (arith, digit_value_digit c k) in
    let m : ℕ = n * 10 + digit_value c in
    let same : n * 10 + (c - 48) ≡ m = omega (arith, is) in
    let room = grows m cs in
    let test : (is_digit c && is_number (n * 10 + (c - 48))) ≡ true = and_from (is_digit c) (is_number (n * 10 + (c - 48))) (and_from (nat_le 48 c) (nat_le c 57) (le-leb 48 c k.0) (le-leb c 57 k.1)) (le-leb (n * 10 + (c - 48)) most_number (omega (arith, same, room, small))) in
    passed (is_digit c && is_number (n * 10 + (c - 48))) (read_digits (n * 10 + (c - 48)) cs) None test
    ∙ ap (λ j. read_digits j cs) same ∙ read_all m cs d.1 small

-- what is read is a number's text, and no zero stands in front
pub number_spelled : (bs : List ℕ) (n : ℕ) → read_number bs ≡ Some n → (bs ≡ decimal n) × (is_number n ≡ true)
number_spelled [] n e = absurd cc
number_spelled (b ∷ []) n e = of (b ∷ []) n (digits_read 0 (b ∷ []) n refl e) (omega arith) (λ _. refl)
  where
    of : (bs : List ℕ) (n : ℕ) → ReadDigits 0 bs n → 0 < length bs → (get_or bs 0 0 ≡ 48 → length bs ≡ 1) → (bs ≡ decimal n) × (is_number n ≡ true)
    of bs n r some lead =
        let small = leb-true n most_number r.small in
        (sym (decimal-digits_value (numerals_by_value (AllDigits 10) tells_digits) bs r.digits some lead (omega (arith, r.value, small))) ∙ ap decimal r.value, r.small)
number_spelled (b ∷ c ∷ bs) n e =
    let t = untaken (b == 48) (read_digits 0 (b ∷ c ∷ bs)) n e in
    let r = digits_read 0 (b ∷ c ∷ bs) n refl t.1 in
    let small = leb-true n most_number r.small in
    (sym (decimal-digits_value (numerals_by_value (AllDigits 10) tells_digits) (b ∷ c ∷ bs) r.digits (omega arith) (λ z. absurd (clash b z t.0)) (omega (arith, r.value, small))) ∙ ap decimal r.value, r.small)
  where
    clash : (b : ℕ) → b ≡ 48 → (b == 48) ≡ false → ⊥
    clash b z f = let yes = eq-eqb b 48 z in cc

read_one : (bs : List ℕ) (n : ℕ) → 0 < length bs → (1 < length bs → 48 < get_or bs 0 0) → read_digits 0 bs ≡ Some n → read_number bs ≡ Some n
read_one [] n some lead e = absurd (omega arith)
read_one (b ∷ []) n some lead e = e
read_one (b ∷ c ∷ bs) n some lead e =
    skipped (b == 48) None (read_digits 0 (b ∷ c ∷ bs)) (ne_eqb b 48 (λ z. omega (arith, z, lead (omega arith)))) ∙ e

-- each number of 32 bits is read
pub number_read : (n : ℕ) → is_number n ≡ true → read_number (decimal n) ≡ Some n
number_read n s =
    let small = leb-true n most_number s in
    let k = decimal_is_IsNumeral n (omega (arith, small)) in
    read_one (decimal n) n k.0.0 (lead n small) (read_all 0 (decimal n) k.0.1 (omega (arith, k.1, small)) ∙ ap Some k.1)
  where
    lead : (n : ℕ) → n ≤ most_number → 1 < length (decimal n) → 48 < get_or (decimal n) 0 0
    lead zero small l = absurd (omega (arith, l, ap length (decimal_digit 0 (omega arith))))
    lead (suc n) small l = first_decimal (suc n) (omega arith) (omega (arith, small))
