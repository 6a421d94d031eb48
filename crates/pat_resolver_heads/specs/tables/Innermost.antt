-- The innermost variable of a name, by its place from the outermost.
use Rattle.std.specs.Prelude.{ℕ, List, [], ◌∷◌, length, Option, Some, None, if◌then◌else◌, bytes_eq}
use Rattle.std.specs.Borrow.{Bor}
use Rattle.std.specs.Map.{lookup}
use Rattle.std.specs.Option.{option_flatten}
use Rattle.pat_resolver_heads.specs.declared.tables.scope.Variable.{Variable}

-- the place of the innermost variable of the name
abbrev pub innermost : List ℕ → List Variable → Option ℕ
innermost x [] = None
innermost x (v ∷ vs) = if bytes_eq v.name x then Some (length vs) else innermost x vs

-- for each variable, the one that its name stands for outside
abbrev pub shadowed_in : List Variable → List (Option ℕ)
shadowed_in [] = []
shadowed_in (v ∷ vs) = innermost v.name vs ∷ shadowed_in vs

-- what is known of the name: a table may know that there is none
abbrev pub known_top : List ℕ → List (Bor (List ℕ) × Option ℕ) → Option ℕ
known_top x entries = option_flatten (lookup (λ k. bytes_eq x k.now) entries)
