-- Numbers in decimal: of at most 32 bits, with no zero in front.
use Rattle.std.specs.Prelude.{ℕ, ◌+◌, ◌*◌, ◌-◌, Bool, true, false, ◌&&◌, ◌==◌, nat_le, nat_eq, if◌then◌else◌, List, [], ◌∷◌, Option, Some, None}
use Rattle.pat_limits.specs.Limits.{most_number}

-- the number is one that a text may have
abbrev pub is_number : ℕ → Bool
is_number n = nat_le n most_number

-- a decimal digit
abbrev pub is_digit : ℕ → Bool
is_digit b = nat_le 48 b && nat_le b 57

-- the number that goes on after n by the digits, as long as it is one that a text may have
abbrev pub read_digits : ℕ → List ℕ → Option ℕ
read_digits n [] = Some n
read_digits n (b ∷ bs) =
    if is_digit b && is_number (n * 10 + (b - 48)) then read_digits (n * 10 + (b - 48)) bs else None

-- the number that the bytes spell, if they spell one
abbrev pub read_number : List ℕ → Option ℕ
read_number [] = None
read_number (b ∷ []) = read_digits 0 (b ∷ [])
read_number (b ∷ c ∷ bs) = if b == 48 then None else read_digits 0 (b ∷ c ∷ bs)
