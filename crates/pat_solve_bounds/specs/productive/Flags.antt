-- What is known of variables: a flag for each.
use Rattle.std.specs.Prelude.{ℕ, Bool, false, List, get_or}

-- the flag of the variable; none past the end
abbrev pub flag_of : List Bool → ℕ → Bool
flag_of flags k = get_or flags k false
