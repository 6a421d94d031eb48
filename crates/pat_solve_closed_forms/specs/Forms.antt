-- Closed forms of values and of sides, as the definitions see them.
use Rattle.std.specs.Prelude.{◌≡◌, ℕ, List, length, Option, Some, None, option_map, get_or, slice_get}
use Rattle.pat_words_spec.specs.Patterns.{Pat}
use Rattle.pat_inclusion_spec.specs.Counts.{most_tags}
use Rattle.pat_inclusion_spec.specs.LinearSets as linear
use Rattle.pat_inclusion_spec.specs.ClosedForms.{closed_form}
use Rattle.pat_linear.specs.Views.{sets_view}
use Rattle.pat_solve_spec.specs.Assignments.{value_in}
use Rattle.pat_solve_bounded.specs.Views.{measured_list}
use Rattle.pat_solve_bounded.specs.replacing.Ascending.{IsAscending, paired}
use Rattle.pat_solve_closed_forms.specs.declared.forms.Assignment.{Assignment}
use Rattle.pat_solve_closed_forms.specs.declared.forms.KeptForm.{KeptForm}
use Rattle.pat_solve_closed_forms.specs.declared.forms.KeptForm.TheVariants as kept
use Rattle.pat_solve_closed_forms.specs.declared.forms.SideForm.{SideForm}
use Rattle.pat_solve_closed_forms.specs.declared.forms.SideForm.TheVariants.{Held, Own}

abbrev pub side_sets : SideForm → List linear.LinearSet
side_sets (Held sets) = sets_view sets.now
side_sets (Own sets) = sets_view sets

abbrev pub side_view : Option SideForm → Option (List linear.LinearSet)
side_view form = option_map side_sets form

-- the value of each variable
abbrev pub values_by : Assignment → ℕ → Pat
values_by by = value_in (paired by.variables.now (measured_list by.values.now))

-- the variables ascend, and each has a value
pub record IsAssignment (by : Assignment) : Type 0 where
  pub ascending : IsAscending by.variables.now
  pub as_many : length by.variables.now ≡ length by.values.now

-- what is kept of the closed form, if it is made, is that form
abbrev pub IsKept : Option (List linear.LinearSet) → KeptForm → Type 0
IsKept form kept.Unmade = Unit {0}
IsKept form kept.TooLarge = None ≡ form
IsKept form (kept.Sets sets) = Some (sets_view sets) ≡ form

-- so it is of the value of each variable, at its place
pub record AreKept (by : Assignment) (forms : List KeptForm) : Type 0 where
  pub as_many : length forms ≡ length by.variables.now
  pub each : (place : ℕ) (form : KeptForm) → slice_get forms place ≡ Some form → IsKept (closed_form most_tags (values_by by (get_or by.variables.now place 0))) form
