-- Variables that are sending and have no flag.
use Rattle.std.specs.Prelude.{◌≡◌, ℕ, suc, ◌<◌, Bool, List, Option, Some, None, slice_get, IsFalse}
use Rattle.pat_semantics_spec.specs.Programs.{Sending}
use Rattle.pat_primitives.specs.Views.{polarity_view}
use Rattle.pat_infer_problems.specs.declared.problem.VarDecl.{VarDecl}
use Rattle.pat_solve_bounds.specs.productive.Flags.{flag_of}

-- the variable is there and sending
abbrev pub IsSender : Option VarDecl → Type 0
IsSender None = ⊥
IsSender (Some v) = polarity_view v.polarity ≡ Sending

-- the variable at the place, whose number is one more, is sending and has no flag
abbrev pub IsOpen : List VarDecl → List Bool → ℕ → Type 0
IsOpen vars flags place = IsSender (slice_get vars place) × IsFalse (flag_of flags (suc place))

-- it is the first of so many
abbrev pub IsFirstOpen : List VarDecl → List Bool → ℕ → ℕ → Type 0
IsFirstOpen vars flags count place = (place < count) × IsOpen vars flags place × ((j : ℕ) → j < place → IsOpen vars flags j → ⊥)

abbrev pub NoneOpen : List VarDecl → List Bool → ℕ → Type 0
NoneOpen vars flags count = (j : ℕ) → j < count → IsOpen vars flags j → ⊥
