-- What a let divides, where entries of its parts stand in the order of its own environment.
use Rattle.std.specs.Prelude.{ℕ, Bool, false, nat_eq, if◌then◌else◌, List, [], ◌∷◌, Option, Some, None}
use Rattle.pat_type_system_spec.specs.Types.{MailboxType}
use Rattle.pat_type_schemes_spec.specs.NodeTypes.{Needs}
use Rattle.pat_derivation_spec.specs.Demands.{Demand, Divide}

-- whether x is the name of the let
abbrev pub is_name : Option ℕ → ℕ → Bool
is_name None x = false
is_name (Some y) x = nat_eq y x

-- the type of x, if its entry is the next
abbrev pub next_of : ℕ → Needs → Option MailboxType
next_of x [] = None
next_of x (e ∷ es) = if nat_eq x e.0 then Some e.1 else None

-- what is left behind the entry of x, if that is the next
abbrev pub behind : ℕ → Needs → Needs
behind x [] = []
behind x (e ∷ es) = if nat_eq x e.0 then es else e ∷ es

-- what is left of a part behind all entries of the environment
abbrev pub left_of : Needs → Needs → Needs
left_of [] m = m
left_of (e ∷ es) m = left_of es (behind e.0 m)

-- each entry of the environment is divided among those that are next
abbrev pub divides_along : Needs → Needs → Needs → List Demand
divides_along [] m n = []
divides_along (e ∷ es) m n = Divide (Some e.1) (next_of e.0 m) (next_of e.0 n) ∷ divides_along es (behind e.0 m) (behind e.0 n)
