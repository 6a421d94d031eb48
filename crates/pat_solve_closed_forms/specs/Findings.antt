-- What is found of the constraints with some numbers, one after another.
use Rattle.std.specs.Prelude.{◌≡◌, ℕ, ◌<◌, Bool, true, false, ◌&&◌, List, get_or, is_some}
use Rattle.pat_words_spec.specs.Patterns.{Pat}
use Rattle.pat_inclusion_spec.specs.Counts.{most_tags}
use Rattle.pat_inclusion_spec.specs.ClosedForms.{closed_form}
use Rattle.pat_infer_problems.specs.declared.problem.Constraint.{Constraint}
use Rattle.pat_solve_spec.specs.Derived.{IsCovered}
use Rattle.pat_solve_closed_forms.specs.declared.checking.Finding.{Finding}
use Rattle.pat_solve_closed_forms.specs.declared.checking.Finding.TheVariants.{Covered, Uncovered, TooLarge}
use Rattle.pat_solve_closed_forms.specs.Sides.{left_under, right_under}

-- both sides have closed forms that aren't too large
abbrev pub have_forms : ℕ → Pat → Pat → Bool
have_forms n e f = is_some (closed_form n e) && is_some (closed_form n f)

-- what is found with one more constraint, whose number is m and whose sides are e and f
abbrev pub Follows : ℕ → Pat → Pat → Finding → Finding → Type 0
Follows m e f Covered Covered = IsCovered most_tags e f
Follows m e f Covered (Uncovered k) = (k ≡ m) × (have_forms most_tags e f ≡ true) × (IsCovered most_tags e f → ⊥)
Follows m e f Covered TooLarge = have_forms most_tags e f ≡ false
Follows m e f (Uncovered k) Covered = ⊥
Follows m e f (Uncovered k) (Uncovered j) = (j ≡ k) × (have_forms most_tags e f ≡ true)
Follows m e f (Uncovered k) TooLarge = have_forms most_tags e f ≡ false
Follows m e f TooLarge Covered = ⊥
Follows m e f TooLarge (Uncovered k) = ⊥
Follows m e f TooLarge TooLarge = Unit {0}

module _ (values : ℕ → Pat) (cs : List Constraint) (ns : List ℕ) where
  -- the constraint whose number stands at this place is covered
  abbrev pub IsCoveredAt : ℕ → Type 0
  IsCoveredAt j = IsCovered most_tags (left_under values cs (get_or ns j 0)) (right_under values cs (get_or ns j 0))

  abbrev pub forms_at : ℕ → Bool
  forms_at j = have_forms most_tags (left_under values cs (get_or ns j 0)) (right_under values cs (get_or ns j 0))

  -- of the constraints at the first places all sides have closed forms, and the one with number m is the first that isn't covered
  pub record IsFirstAmong (places m : ℕ) : Type 0 where
    pub place : ℕ
    pub within : place < places
    pub is : m ≡ get_or ns place 0
    pub uncovered : IsCoveredAt place → ⊥
    pub before : (j : ℕ) → j < place → IsCoveredAt j
    pub forms : (j : ℕ) → j < places → forms_at j ≡ true

  -- a side has no closed form
  pub record IsLargeAmong (places : ℕ) : Type 0 where
    pub place : ℕ
    pub within : place < places
    pub none : forms_at place ≡ false

  -- what is found of the constraints at the first places
  abbrev pub Finds : ℕ → Finding → Type 0
  Finds places Covered = (j : ℕ) → j < places → IsCoveredAt j
  Finds places (Uncovered m) = IsFirstAmong places m
  Finds places TooLarge = IsLargeAmong places
