-- Sets of free variables, one for each node.
use Rattle.std.specs.Prelude.{ℕ, Bool, false, List, Option, Some, None, slice_get}
use Rattle.pat_semantics_laws.specs.Programs.{is_among}
use Rattle.pat_reduce_values.specs.declared.programs.variables.Variables.{Variables}

abbrev pub is_in : Option Variables → ℕ → Bool
is_in None x = false
is_in (Some xs) x = is_among x xs.listed

-- whether the variable is in the set of node n, if there is one
abbrev pub is_listed : List Variables → ℕ → ℕ → Bool
is_listed free n x = is_in (slice_get free n) x
