-- How many types of signatures have no written pattern.
use Rattle.std.specs.Prelude.{ℕ, ◌+◌, List, [], ◌∷◌}
use Rattle.pat_semantics_spec.specs.Programs.{Sort, Function}
use Rattle.pat_type_schemes_spec.specs.Signatures.{omits}

abbrev pub omitted_in : List Sort → ℕ
omitted_in [] = 0
omitted_in (s ∷ ss) = omits s + omitted_in ss

abbrev pub omitted_by : Function → ℕ
omitted_by g = omitted_in g.params + omits g.result

abbrev pub omitted_by_all : List Function → ℕ
omitted_by_all [] = 0
omitted_by_all (g ∷ gs) = omitted_by g + omitted_by_all gs
