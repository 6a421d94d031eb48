-- Places of names.
use Rattle.std.specs.Prelude.{◌≡◌, ℕ, List, Option, Some, None, option_map, bytes_eq}
use Rattle.std.specs.Borrow.{Bor}
use Rattle.std.specs.Map.{lookup}
use Rattle.pat_resolver_spec.specs.Scopes.{first_named, itself}

-- the first place of a name
abbrev pub place_of : List ℕ → List (List ℕ) → Option ℕ
place_of x names = option_map (λ f. f.0) (first_named itself x names)

-- the first place, or else the second
abbrev pub first_of : Option ℕ → Option ℕ → Option ℕ
first_of None o = o
first_of (Some i) o = Some i

-- what is known of it
abbrev pub known_place : List ℕ → List (Bor (List ℕ) × ℕ) → Option ℕ
known_place x entries = lookup (λ k. bytes_eq x k.now) entries

-- a name's first place is the one among the first few, or else the one that is known
abbrev pub IsFirst : List ℕ → List (List ℕ) → List (Bor (List ℕ) × ℕ) → List (List ℕ) → Type 0
IsFirst x few entries names = first_of (place_of x few) (known_place x entries) ≡ place_of x names
