-- Texts that begin with others, and whether two tests agree.
use Rattle.std.specs.Prelude.{ℕ, Bool, true, false, not, bytes_eq, take, drop, if◌then◌else◌, List, length, Option, Some, None}

-- whether both are so, or neither
abbrev pub agree : Bool → Bool → Bool
agree true b = b
agree false b = not b

-- what stands behind these bytes, if the others begin with them
abbrev pub behind : List ℕ → List ℕ → Option (List ℕ)
behind own bytes = if bytes_eq (take (length own) bytes) own then Some (drop (length own) bytes) else None
