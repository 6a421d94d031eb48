-- Closed forms of values.
use Rattle.std.specs.Prelude.{◌≡◌, ℕ, List, Option, Some, None, slice_get, IsTrue}
use Rattle.pat_inclusion_spec.specs.LinearSets.{LinearSet}
use Rattle.pat_inclusion_spec.specs.ClosedForms.{closed_form}
use Rattle.pat_inclusion_spec.specs.Values.{Scope, var_at, pattern_of, has_interface}
use Rattle.pat_linear.specs.Views.{sets_view}
use Rattle.pat_linear.specs.declared.set.LinearSet.{LinearSet as CodeSet}
use Rattle.pat_solve_derivation.specs.declared.certificates.sides.ClosedForm.{ClosedForm}
use Rattle.pat_solve_derivation.specs.declared.certificates.sides.ClosedForm.TheVariants as form

-- what is kept for variable k, if anything, is the closed form of its value
abbrev pub IsClosedAt : Scope → ℕ → Option (List CodeSet) → Type 0
IsClosedAt s k None = Unit {0}
IsClosedAt s k (Some sets) =
    (i : ℕ) → IsTrue (has_interface i (var_at s.vars k)) → closed_form (s.tags i) (pattern_of s k) ≡ Some (sets_view sets)

-- so it is at each number
abbrev pub AreClosed : Scope → List (Option (List CodeSet)) → Type 0
AreClosed s all = (k : ℕ) (o : Option (List CodeSet)) → slice_get all k ≡ Some o → IsClosedAt s k o

-- the sets of a closed form
abbrev pub closed_view : ClosedForm → List LinearSet
closed_view (form.Kept sets) = sets_view sets.now
closed_view (form.Made sets) = sets_view sets
