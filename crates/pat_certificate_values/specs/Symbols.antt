-- What the patterns of one interface are made of.
use Rattle.std.specs.Prelude.{ℕ, List}
use Rattle.pat_inclusion_spec.specs.Values.{Scope, VarLine}

-- the scope in which each interface has so many tags
abbrev pub scope_with : ℕ → List VarLine → Scope
scope_with count vars = record { tags = λ i. count; vars = vars }
