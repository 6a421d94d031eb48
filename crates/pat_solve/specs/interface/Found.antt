-- What is found of an interface.
use Rattle.std.specs.Prelude.{◌≡◌, ℕ, ◌<◌, Bool, true, false, List, map, Option, Some, None}
use Rattle.pat_words_spec.specs.Words.{Word}
use Rattle.pat_words_spec.specs.Patterns.{Pat}
use Rattle.pat_semantics_spec.specs.Programs.{Program}
use Rattle.pat_inclusion_spec.specs.bounds.Trees.{Bound}
use Rattle.pat_inclusion_spec.specs.bounds.Searches.{IsInside}
use Rattle.pat_bags.specs.declared.Bag.{Bag}
use Rattle.pat_bags.specs.Views.{word_of}
use Rattle.pat_inclusion_spec.specs.Values.{PatternForm, GridForm}
use Rattle.pat_witnesses.specs.declared.search.Refutation.{Refutation}
use Rattle.pat_witnesses.specs.Views.{bound_view}
use Rattle.pat_derivations.specs.declared.data.VarValue.{VarValue}
use Rattle.pat_derivations.specs.Views.{counts_of, value_view}
use Rattle.pat_infer_spec.specs.Constraints.{Constraint}
use Rattle.pat_infer_spec.specs.Walk.{all_vars}
use Rattle.pat_solve_spec.specs.LowerBounds.{lowers_of}
use Rattle.pat_solve_spec.specs.Assignments.{vars_in}
use Rattle.pat_solve_spec.specs.Answers.{IsConstraint, IsSmall, IsSearched, IsRefuted, IsUndecided, IsTooLarge, FormIs, value_by}
use Rattle.pat_solve_bounds.specs.results.Views.{form_of}
use Rattle.pat_solve_closed_forms.specs.Values.{IsFirstUncovered}
use Rattle.pat_solve_grids.specs.declared.entry.InterfaceGrids.{InterfaceGrids}
use Rattle.pat_solve.specs.Smallest.{IsLeastRefutation}
use Rattle.pat_solve.specs.declared.interface.forms.Unshown.{Unshown}
use Rattle.pat_solve.specs.declared.interface.forms.InterfaceForm.{InterfaceForm}
use Rattle.pat_solve.specs.declared.interface.forms.InterfaceForm.TheVariants.{Solved, TooLarge, Unsolved}

module _ (p : Program) where
  -- the constraint is neither refuted nor undecided
  pub record IsShut (n : ℕ) : Type 0 where
    pub refuted : (w : Word) (b : Bound) → IsRefuted p n w b → ⊥
    pub undecided : IsUndecided p n → ⊥

  -- the constraint is refuted, by a least tree, or it is undecided
  abbrev pub IsUnshownBy : ℕ → Option Refutation → Type 0
  IsUnshownBy n None = IsUndecided p n
  IsUnshownBy n (Some r) = IsRefuted p n (word_of r.word) (bound_view r.tree) × IsLeastRefutation p n (bound_view r.tree)

  abbrev pub IsUnshown : Unshown → Type 0
  IsUnshown o = IsUnshownBy o.constraint o.refutation

  -- the values of the interface's variables, all of which show its constraints
  pub record AreFormOf (i : ℕ) (bound : Option ℕ) (values : List VarValue) : Type 0 where
    pub points : ℕ → List (List ℕ)
    pub form : FormIs p (λ j. points) i (form_of (Some bound))
    pub values_are : map value_view values ≡ map (value_by p (λ j. points) (form_of (Some bound)) i) (vars_in i 1 (all_vars p))
    pub inside : (n : ℕ) (c : Constraint) → IsConstraint p n c → c.interface ≡ i → IsSearched p c → IsInside (lowers_of p) c.left c.right
    pub small : IsTooLarge p i → ⊥
    pub shut : (n : ℕ) (c : Constraint) → IsConstraint p n c → c.interface ≡ i → IsShut n

  -- the first constraint of the interface that is refuted or undecided
  pub record IsFirstUnshown (i : ℕ) (o : Unshown) : Type 0 where
    pub small : IsTooLarge p i → ⊥
    pub constraint : Constraint
    pub at : IsConstraint p o.constraint constraint
    pub own : constraint.interface ≡ i
    pub unshown : IsUnshown o
    pub before : (m : ℕ) (c : Constraint) → m < o.constraint → IsConstraint p m c → c.interface ≡ i → IsShut m

  abbrev pub FormGives : ℕ → InterfaceForm → Type 0
  FormGives i (Solved bound values) = AreFormOf i bound values
  FormGives i TooLarge = IsTooLarge p i
  FormGives i (Unsolved o) = IsFirstUnshown i o

-- ---- on the way

-- the closed-form assignment is too large, or this constraint of the interface is the first that it doesn't cover
abbrev pub IsUncovered : Program → ℕ → Option ℕ → Type 0
IsUncovered p i None = IsSmall p i → ⊥
IsUncovered p i (Some n) = IsFirstUncovered p i n

-- the values are these patterns
abbrev pub ArePatterns : List Pat → InterfaceForm → Type 0
ArePatterns es (Solved bound values) = (bound ≡ None) × (map value_view values ≡ map PatternForm es)
ArePatterns es _ = ⊥

-- what there is without grids
abbrev pub IsWithout : Option ℕ → InterfaceForm → Type 0
IsWithout None f = f ≡ TooLarge
IsWithout (Some n) f = f ≡ Unsolved (record { constraint = n; refutation = None })

-- the values are grids with this bound and these points
abbrev pub AreGrids : ℕ → List (List Bag) → InterfaceForm → Type 0
AreGrids k points (Solved bound values) = (bound ≡ Some k) × (map value_view values ≡ map (λ ps. GridForm k (map counts_of ps)) points)
AreGrids k points _ = ⊥

-- what there is with grids
abbrev pub IsByGridsOf : ℕ → Bool → Option (ℕ × Refutation) → List (List Bag) → InterfaceForm → Type 0
IsByGridsOf k true r points f = f ≡ TooLarge
IsByGridsOf k false (Some x) points f = f ≡ Unsolved (record { constraint = x.0; refutation = Some x.1 })
IsByGridsOf k false None points f = AreGrids k points f

abbrev pub IsByGrids : ℕ → InterfaceGrids → InterfaceForm → Type 0
IsByGrids k g f = IsByGridsOf k g.is_oversized g.refuted g.points f
