-- Integers of 64 bits in decimal: a minus before negatives, no zero in front, and no minus before zero.
use Rattle.std.specs.Prelude.{ℕ, zero, suc, ◌+◌, ◌*◌, ◌-◌, ℤ, pos, negsuc, Bool, ◌&&◌, ◌==◌, nat_le, if◌then◌else◌, List, [], ◌∷◌, Option, Some, None, option_map, option_and_then}
use Rattle.pat_texts_spec.specs.Numbers.{is_digit}

-- the integer has 64 bits
abbrev pub is_integer : ℤ → Bool
is_integer (pos n) = nat_le n 9223372036854775807
is_integer (negsuc n) = nat_le n 9223372036854775807

-- the number that goes on after n by the digits, as long as it is no greater than the limit
abbrev pub read_more : (limit n : ℕ) → List ℕ → Option ℕ
read_more limit n [] = Some n
read_more limit n (b ∷ bs) =
    if is_digit b && nat_le (n * 10 + (b - 48)) limit then read_more limit (n * 10 + (b - 48)) bs else None

-- the number up to the limit that the bytes spell, if they spell one
abbrev pub read_natural : (limit : ℕ) → List ℕ → Option ℕ
read_natural limit [] = None
read_natural limit (b ∷ []) = read_more limit 0 (b ∷ [])
read_natural limit (b ∷ c ∷ bs) = if b == 48 then None else read_more limit 0 (b ∷ c ∷ bs)

-- the negative of a number that isn't zero
abbrev pub negative : ℕ → Option ℤ
negative zero = None
negative (suc n) = Some (negsuc n)

-- the integer that the bytes spell, if they spell one
abbrev pub read_integer : List ℕ → Option ℤ
read_integer [] = None
read_integer (b ∷ bs) =
    if b == 45 then option_and_then negative (read_natural 9223372036854775808 bs) else option_map pos (read_natural 9223372036854775807 (b ∷ bs))
