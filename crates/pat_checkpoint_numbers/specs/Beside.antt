-- What stands at a place.
use Rattle.std.specs.Prelude.{ℕ, Option, Some, None}

-- the number, if there is one, and otherwise 0
abbrev pub or_zero : Option ℕ → ℕ
or_zero None = 0
or_zero (Some k) = k
