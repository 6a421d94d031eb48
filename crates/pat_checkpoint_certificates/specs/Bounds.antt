-- The bound of an interface's grids.
use Rattle.std.specs.Prelude.{◌≡◌, ◌<◌, ℕ, ◌&&◌, nat_lt, if◌then◌else◌, List, length, Option, Some, None, unwrap_or, slice_get}
use Rattle.pat_semantics_spec.specs.Programs.{Program}
use Rattle.pat_solve_spec.specs.Assignments.{is_in_bounds}
use Rattle.pat_solve_spec.specs.Answers.{tags_of, constraints_of, grid_bound}

-- the bound that solving takes for the grids of an interface, if that is there and in bounds
abbrev pub bound_in : Program → ℕ → Option ℕ
bound_in p i = if nat_lt i (length p.interfaces) && is_in_bounds (tags_of p i) (constraints_of p i) then Some (grid_bound p i) else None

-- the number at a place of a list, if the list has one there
abbrev pub listed_at : List (Option ℕ) → ℕ → Option ℕ
listed_at ns place = unwrap_or (slice_get ns place) None

-- the list has the bounds of the first interfaces
pub record IsListed (p : Program) (count : ℕ) (bounds : List (Option ℕ)) : Type 0 where
  pub long : length bounds ≡ count
  pub at : (i : ℕ) → i < count → slice_get bounds i ≡ Some (bound_in p i)
