-- How many patterns signatures leave out.
use Rattle.std.specs.Prelude.{ℕ, ◌+◌, List, [], ◌∷◌}
use Rattle.pat_semantics_spec.specs.Programs.{Sort, Function}
use Rattle.pat_type_schemes_spec.specs.Signatures.{omits}

-- how many these types leave out
abbrev pub omit_all : List Sort → ℕ
omit_all [] = 0
omit_all (s ∷ ss) = omits s + omit_all ss

-- how many the signature of a function leaves out
abbrev pub omit_in : Function → ℕ
omit_in g = omit_all g.params + omits g.result

abbrev pub omit_in_all : List Function → ℕ
omit_in_all [] = 0
omit_in_all (g ∷ gs) = omit_in g + omit_in_all gs
