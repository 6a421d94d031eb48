-- The tests of the values of all variables.
use Rattle.std.specs.Prelude.{◌≡◌, ℕ, zero, suc, Bool, false, List, map, Option, Some, None, slice_get}
use Rattle.pat_words_spec.specs.Patterns.{Pat, is_nullable, is_inhabited}
use Rattle.pat_inclusion_spec.specs.Values.{Scope, value_pattern}
use Rattle.pat_certificate_values.specs.declared.words.Tests.{Tests}

-- the answer, and no where there is none
abbrev pub or_no : Option Bool → Bool
or_no None = false
or_no (Some b) = b

-- the answer for the variable with this number; they are numbered from 1
abbrev pub flag_at : List Bool → ℕ → Bool
flag_at flags zero = false
flag_at flags (suc k) = or_no (slice_get flags k)

-- the test of the value of each variable
abbrev pub value_tests : (Pat → Bool) → Scope → List Bool
value_tests test s = map (λ v. test (value_pattern (s.tags v.interface) v.value)) s.vars

-- the tests are those of the values
pub record IsTested (s : Scope) (t : Tests) : Type 0 where
  pub nullable : t.nullable ≡ value_tests is_nullable s
  pub inhabited : t.inhabited ≡ value_tests is_inhabited s
