-- Tags as bits of a number.
use Rattle.std.specs.Prelude.{ℕ, ◌%◌, ◌/◌, ◌^◌, Bool, nat_eq}

-- whether the bit of the tag is set
abbrev pub is_received : ℕ → ℕ → Bool
is_received received t = nat_eq (received / 2 ^ t % 2) 1
