-- What is known of a program's first interfaces.
use Rattle.std.specs.Prelude.{◌≡◌, ℕ, suc, ◌<◌, List, length, Option, Some, None, slice_get}
use Rattle.pat_semantics_spec.specs.Programs.{Program}
use Rattle.pat_inclusion_spec.specs.bounds.Searches.{IsInside}
use Rattle.pat_derivations.specs.declared.data.VarValue.{VarValue as CodeValue}
use Rattle.pat_derivations.specs.Views.{vars_view}
use Rattle.pat_type_schemes_spec.specs.Signatures.{Variable}
use Rattle.pat_infer_spec.specs.Constraints.{Constraint}
use Rattle.pat_infer_spec.specs.Walk.{all_vars}
use Rattle.pat_solve_spec.specs.LowerBounds.{lowers_of}
use Rattle.pat_solve_spec.specs.Answers.{AllUsable, NoneTooLarge, IsConstraint, IsSearched, FormIs, value_by}
use Rattle.pat_solve_bounds.specs.results.Views.{forms_of}
use Rattle.pat_solve.specs.interface.Found.{IsShut, IsUnshown}
use Rattle.pat_solve.specs.declared.interface.forms.Unshown.{Unshown}
use Rattle.pat_solve.specs.declared.states.Progress.{Progress}

module _ (p : Program) (i : ℕ) where
  -- each constraint of the first i interfaces is neither refuted nor undecided; or this is the first that is
  pub record IsFirstOf (o : Unshown) : Type 0 where
    pub constraint : Constraint
    pub at : IsConstraint p o.constraint constraint
    pub own : constraint.interface < i
    pub unshown : IsUnshown p o
    pub before : (m : ℕ) (c : Constraint) → m < o.constraint → IsConstraint p m c → c.interface < i → IsShut p m

  abbrev pub FirstIs : Option Unshown → Type 0
  FirstIs None = (m : ℕ) (c : Constraint) → IsConstraint p m c → c.interface < i → IsShut p m
  FirstIs (Some o) = IsFirstOf o

  -- the first i interfaces have these forms, and these are the values of their variables
  pub record AreSolved (bounds : List (Option ℕ)) (values : List (ℕ × CodeValue)) : Type 0 where
    pub points : ℕ → ℕ → List (List ℕ)
    pub count : length bounds ≡ i
    pub as_many : length values ≡ length (all_vars p)
    pub forms : (j : ℕ) → j < i → FormIs p points j (forms_of bounds j)
    pub inside : (n : ℕ) (c : Constraint) → IsConstraint p n c → c.interface < i → IsSearched p c → IsInside (lowers_of p) c.left c.right
    pub filled : (k : ℕ) (v : Variable) → slice_get (all_vars p) k ≡ Some v → v.interface < i → slice_get (vars_view values) k ≡ Some (record { interface = v.interface; value = value_by p points (forms_of bounds v.interface) v.interface (suc k) })

  pub record Stands (s : Progress) : Type 0 where
    pub usable : AllUsable p
    pub small : NoneTooLarge p i
    pub first : FirstIs s.first
    pub solved : s.first ≡ None → AreSolved s.bounds s.values
