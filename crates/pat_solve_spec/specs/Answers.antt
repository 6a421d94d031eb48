-- What solving answers: the form of each interface's values, and what is answered first, in order.
use Rattle.std.specs.Prelude.{◌≡◌, ℕ, suc, ◌<◌, ◌⊎◌, List, [], ◌∷◌, length, Some, slice_get, IsTrue}
use Rattle.pat_words_spec.specs.Words.{Word}
use Rattle.pat_words_spec.specs.Patterns.{is_closed, subst_of}
use Rattle.pat_semantics_spec.specs.Programs.{Sending, Program}
use Rattle.pat_inclusion_spec.specs.Values.{VarValue, PatternForm, GridForm, VarLine}
use Rattle.pat_inclusion_spec.specs.bounds.Trees.{Bound, derivable}
use Rattle.pat_inclusion_spec.specs.bounds.Searches.{IsInside, IsFound, IsLarge}
use Rattle.pat_inclusion_spec.specs.bounds.LeastGrids.{AreLeastPoints}
use Rattle.pat_infer_spec.specs.Signatures.{Variable, signature_vars}
use Rattle.pat_derivation_spec.specs.Derivations.{tag_count}
use Rattle.pat_infer_spec.specs.Constraints.{Constraint}
use Rattle.pat_infer_spec.specs.Shapes.{IsNumber}
use Rattle.pat_infer_spec.specs.Walk.{inferred, all_vars}
use Rattle.pat_solve_spec.specs.LowerBounds.{constraints_in, lowers_of, lowers_in}
use Rattle.pat_solve_spec.specs.Assignments.{Values, vars_in, assigned, value_in, assignment_fits, bound_of, is_in_bounds}
use Rattle.pat_solve_spec.specs.Derived.{Form, Patterns, Grids, IsCovered}
use Rattle.pat_limits.specs.Limits.{most_tree_nodes}

-- what is answered; variables are numbered from 1, constraints and interfaces from 0
pub data Answer : Type 0 where
  Unusable : (variable : ℕ) → Answer
  TooLarge : (interface : ℕ) → Answer
  Refuted : (constraint : ℕ) → (word : Word) → (tree : Bound) → Answer
  Undecided : (constraint : ℕ) → Answer
  -- the form of each interface's values, and the points of each interface's variables
  Solved : (forms : ℕ → Form) → (points : ℕ → ℕ → List (List ℕ)) → Answer

module _ (p : Program) where
  -- ---- one interface

  abbrev pub tags_of : ℕ → ℕ
  tags_of i = tag_count (slice_get p.interfaces i)

  abbrev pub constraints_of : ℕ → List Constraint
  constraints_of i = constraints_in i (inferred p).constraints

  -- the closed-form assignment of the interface
  abbrev pub values_of : ℕ → Values
  values_of i = assigned (constraints_of i) (vars_in i 1 (all_vars p))

  -- it isn't too large
  abbrev pub IsSmall : ℕ → Type 0
  IsSmall i = IsTrue (assignment_fits (tags_of i) (constraints_of i) (vars_in i 1 (all_vars p)))

  abbrev pub IsInBounds : ℕ → Type 0
  IsInBounds i = IsTrue (is_in_bounds (tags_of i) (constraints_of i))

  -- the bound of its grids
  abbrev pub grid_bound : ℕ → ℕ
  grid_bound i = bound_of (constraints_of i)

  -- the constraint with this number
  abbrev pub IsConstraint : ℕ → Constraint → Type 0
  IsConstraint n c = slice_get (inferred p).constraints n ≡ Some c

  -- the constraint is directly covered under the closed-form assignment of its interface
  abbrev pub IsCoveredUnder : Constraint → Type 0
  IsCoveredUnder c =
      IsCovered (tags_of c.interface) (subst_of (value_in (values_of c.interface)) c.left) (subst_of (value_in (values_of c.interface)) c.right)

  -- ---- the form of an interface's values

  -- they are patterns, those of the closed-form assignment, where it isn't too large and covers each constraint
  pub record HasPatterns (i : ℕ) : Type 0 where
    pub small : IsSmall i
    pub covered : (n : ℕ) (c : Constraint) → IsConstraint n c → c.interface ≡ i → IsCoveredUnder c

  -- otherwise they are grids, where the interface is in bounds
  pub record HasGrids (i : ℕ) : Type 0 where
    pub other : HasPatterns i → ⊥
    pub in_bounds : IsInBounds i

  -- and otherwise there are none
  pub record HasNeither (i : ℕ) : Type 0 where
    pub other : HasPatterns i → ⊥
    pub out_of_bounds : IsInBounds i → ⊥

  -- ---- reasons to refuse

  -- a sending variable of a signature that no word is derivable for
  pub record IsUnusable (k : ℕ) : Type 0 where
    pub variable : Variable
    pub number : IsNumber (signature_vars p) k variable
    pub sending : variable.polarity ≡ Sending
    pub none : (w : Word) → derivable (lowers_of p) k w → ⊥

  -- a constraint without variables on its right, of an interface whose values are grids
  pub record IsSearched (c : Constraint) : Type 0 where
    pub grids : HasGrids c.interface
    pub closed : IsTrue (is_closed c.right)

  -- the left derives a word that the right lacks, and some tree that shows it keeps to the limit
  pub record IsRefuted (n : ℕ) (w : Word) (b : Bound) : Type 0 where
    pub constraint : Constraint
    pub at : IsConstraint n constraint
    pub searched : IsSearched constraint
    pub found : IsFound most_tree_nodes (lowers_of p) constraint.left constraint.right w b

  -- the right does lack such a word, but no tree that shows it keeps to the limit
  pub record IsOversized (c : Constraint) : Type 0 where
    pub searched : IsSearched c
    pub large : IsLarge most_tree_nodes (lowers_of p) c.left c.right

  -- a constraint of an interface without values that isn't directly covered
  pub record IsUndecided (n : ℕ) : Type 0 where
    pub constraint : Constraint
    pub at : IsConstraint n constraint
    pub neither : HasNeither constraint.interface
    pub uncovered : IsCoveredUnder constraint → ⊥

  -- an interface without values whose closed-form assignment is too large, or one with an oversized constraint
  abbrev pub IsTooLarge : ℕ → Type 0
  IsTooLarge i =
      (HasNeither i × (IsSmall i → ⊥))
      ⊎ ((n : ℕ) × (c : Constraint) × IsConstraint n c × (c.interface ≡ i) × IsOversized c)

  -- ---- values

  abbrev pub value_by : (ℕ → ℕ → List (List ℕ)) → Form → ℕ → ℕ → VarValue
  value_by points Patterns i k = PatternForm (value_in (values_of i) k)
  value_by points (Grids b) i k = GridForm b (points i k)

  -- the values of variables, numbered from k on
  abbrev pub values_from : (ℕ → Form) → (ℕ → ℕ → List (List ℕ)) → ℕ → List Variable → List VarLine
  values_from forms points k [] = []
  values_from forms points k (v ∷ vs) =
      record { interface = v.interface; value = value_by points (forms v.interface) v.interface k } ∷ values_from forms points (suc k) vs

  abbrev pub solution : (ℕ → Form) → (ℕ → ℕ → List (List ℕ)) → List VarLine
  solution forms points = values_from forms points 1 (all_vars p)

  -- the form is that of the interface's values, and where they are grids, the points are those of the least grids
  abbrev pub FormIs : (ℕ → ℕ → List (List ℕ)) → ℕ → Form → Type 0
  FormIs points i Patterns = HasPatterns i
  FormIs points i (Grids k) =
      HasGrids i × (k ≡ grid_bound i) × AreLeastPoints (grid_bound i) (tags_of i) (lowers_in p i) (points i)

  -- ---- in order

  -- each sending variable of a signature has a derivable word
  abbrev pub AllUsable : Type 0
  AllUsable =
      (k : ℕ) (v : Variable) → IsNumber (signature_vars p) k v → v.polarity ≡ Sending → (w : Word) × derivable (lowers_of p) k w

  -- none of the first interfaces is too large
  abbrev pub NoneTooLarge : ℕ → Type 0
  NoneTooLarge i = (j : ℕ) → j < i → IsTooLarge j → ⊥

  -- none of the first constraints is refuted or undecided
  pub record NoneOpen (n : ℕ) : Type 0 where
    pub refuted : (m : ℕ) (w : Word) (b : Bound) → m < n → IsRefuted m w b → ⊥
    pub undecided : (m : ℕ) → m < n → IsUndecided m → ⊥

  -- the answer is right: what it says holds, and nothing that is answered before it
  abbrev pub IsRight : Answer → Type 0
  IsRight (Unusable k) = IsUnusable k × ((j : ℕ) → j < k → IsUnusable j → ⊥)
  IsRight (TooLarge i) = AllUsable × (i < length p.interfaces) × IsTooLarge i × NoneTooLarge i
  IsRight (Refuted n w b) = AllUsable × NoneTooLarge (length p.interfaces) × IsRefuted n w b × NoneOpen n
  IsRight (Undecided n) = AllUsable × NoneTooLarge (length p.interfaces) × IsUndecided n × NoneOpen n
  IsRight (Solved forms points) =
      AllUsable
      × ((i : ℕ) → i < length p.interfaces → FormIs points i (forms i))
      × ((n : ℕ) (c : Constraint) → IsConstraint n c → IsSearched c → IsInside (lowers_of p) c.left c.right)
