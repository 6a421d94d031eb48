-- What a step makes of what is known.
use Rattle.std.specs.Prelude.{◌≡◌, ℕ, ◌-◌, ◌<◌, ◌≤◌, ◌⊎◌, List, [], ◌∷◌, ◌++◌, length, drop, map, Option, Some, None, slice_set, Result, Ok, Err}
use Rattle.pat_inclusion_spec.specs.Values.{VarValue, VarLine}
use Rattle.pat_derivations.specs.declared.data.VarValue.{VarValue as CodeValue}
use Rattle.pat_derivations.specs.Views.{value_view, vars_view}
use Rattle.pat_witnesses.specs.declared.search.Refutation.{Refutation}
use Rattle.pat_solve_bounds.specs.declared.results.solution.Solution.{Solution}
use Rattle.pat_solve_bounds.specs.declared.results.error.SolveError.{SolveError}
use Rattle.pat_solve_bounds.specs.declared.results.error.SolveError.TheVariants as error
use Rattle.pat_solve.specs.declared.interface.forms.Unshown.{Unshown}
use Rattle.pat_solve.specs.declared.interface.forms.InterfaceForm.{InterfaceForm}
use Rattle.pat_solve.specs.declared.interface.forms.InterfaceForm.TheVariants.{Solved, TooLarge, Unsolved}
use Rattle.pat_solve.specs.declared.states.Progress.{Progress}

-- nothing is known of so many variables
pub record IsBegun (count : ℕ) (s : Progress) : Type 0 where
  pub bounds : s.bounds ≡ []
  pub values : length s.values ≡ count
  pub first : s.first ≡ None

-- the values of variables in their places
abbrev pub put_lines : ℕ → List ℕ → List VarValue → List VarLine → List VarLine
put_lines i (k ∷ ks) (v ∷ vs) lines = slice_set (put_lines i ks vs lines) (k - 1) (record { interface = i; value = v })
put_lines i _ _ lines = lines

-- the bound of an interface more, and the values of its variables
pub record IsSolvedMore (i : ℕ) (variables : List ℕ) (old : Progress) (bound : Option ℕ) (own : List CodeValue) (new : Progress) : Type 0 where
  pub bounds : new.bounds ≡ old.bounds ++ bound ∷ []
  pub values : length own ≡ length variables → vars_view new.values ≡ put_lines i variables (map value_view own) (vars_view old.values)
  pub first : new.first ≡ old.first

abbrev pub SolvesMore : ℕ → List ℕ → Progress → Option ℕ → List CodeValue → Result Progress SolveError → Type 0
SolvesMore i variables old bound own (Ok new) = IsSolvedMore i variables old bound own new
SolvesMore i variables old bound own (Err e) = e ≡ error.NoMemory

-- the interface is too large
abbrev pub IsTooLargeBy : ℕ → Result Progress SolveError → Type 0
IsTooLargeBy i (Ok s) = ⊥
IsTooLargeBy i (Err (error.TooLarge j)) = j ≡ i
IsTooLargeBy i (Err error.NoMemory) = Unit {0}
IsTooLargeBy i (Err _) = ⊥

-- the constraint with the lower number of the one, if it is there, and the other
abbrev pub IsEarlier : Option Unshown → Unshown → Option Unshown → Type 0
IsEarlier None o r = r ≡ Some o
IsEarlier (Some b) o r = ((b.constraint < o.constraint) × (r ≡ Some b)) ⊎ ((o.constraint ≤ b.constraint) × (r ≡ Some o))

pub record MeetsUnshown (old : Progress) (o : Unshown) (new : Progress) : Type 0 where
  pub first : IsEarlier old.first o new.first

-- one interface more
abbrev pub TookIn : ℕ → List ℕ → Progress → InterfaceForm → Result Progress SolveError → Type 0
TookIn i variables old (Solved bound own) r = SolvesMore i variables old bound own r
TookIn i variables old TooLarge r = IsTooLargeBy i r
TookIn i variables old (Unsolved o) (Ok new) = MeetsUnshown old o new
TookIn i variables old (Unsolved o) (Err e) = e ≡ error.NoMemory

-- what is said of the constraint
abbrev pub IsErrorBy : ℕ → Option Refutation → SolveError → Type 0
IsErrorBy n (Some r) (error.Refuted m q) = (m ≡ n) × (q ≡ r)
IsErrorBy n None (error.Undecided m) = m ≡ n
IsErrorBy n r error.NoMemory = Unit {0}
IsErrorBy n r _ = ⊥

abbrev pub IsErrorOf : Unshown → SolveError → Type 0
IsErrorOf o e = IsErrorBy o.constraint o.refutation e

abbrev pub FinishesBy : Progress → Option Unshown → Result Solution SolveError → Type 0
FinishesBy s None (Ok t) = (t.bounds ≡ s.bounds) × (t.values ≡ s.values)
FinishesBy s (Some o) (Err e) = IsErrorOf o e
FinishesBy s _ _ = ⊥

abbrev pub Finishes : Progress → Result Solution SolveError → Type 0
Finishes s r = FinishesBy s s.first r

-- some of the values are in their places: those behind the ones that are left
pub record IsPut (i : ℕ) (variables : List ℕ) (all : List CodeValue) (before : List VarLine) (left : List CodeValue) (lines : List VarLine) : Type 0 where
  pub behind : List CodeValue
  pub whole : all ≡ left ++ behind
  pub put : length all ≡ length variables → lines ≡ put_lines i (drop (length left) variables) (map value_view behind) before
