-- What is left of a count.
use Rattle.std.specs.Prelude.{◌≡◌, ◌+◌, ◌<◌, ℕ, Option, Some, None}

-- what is left of n once m is taken, or it falls short
abbrev pub Leaves : Option ℕ → ℕ → ℕ → Type 0
Leaves (Some r) n m = r + m ≡ n
Leaves None n m = n < m
