use Rattle.std.proofs.Common.{◌≡◌, ℕ, Some, length}
use Rattle.std.specs.Prelude.{slice_get}
use Rattle.pat_solve_closed_forms.specs.declared.forms.KeptForm.{KeptForm}
use Rattle.pat_solve_closed_forms.specs.declared.forms.KeptForm.TheVariants.{Unmade}
use Rattle.pat_solve_closed_forms.proofs.forms.unmade_forms.Given as goal

-- there is none for each variable before this one
abbrev pub invariant-loop : goal.invariant-loop
invariant-loop l = record {
  count : length l.forms ≡ l.index;
  none : (place : ℕ) (form : KeptForm) → slice_get l.forms place ≡ Some form → form ≡ Unmade;
}
