-- What is found of the closed-form values of an interface of a program.
use Rattle.std.specs.Prelude.{◌≡◌, ℕ, ◌<◌, List, [], length}
use Rattle.pat_semantics_spec.specs.Programs as core
use Rattle.pat_semantics_spec.specs.WellFormed.{WellFormed}
use Rattle.pat_core.specs.declared.program.Program.{Program}
use Rattle.pat_core.specs.Views.{program_view}
use Rattle.pat_infer_spec.specs.Constraints.{Constraint}
use Rattle.pat_infer_spec.specs.Walk.{inferred, all_vars}
use Rattle.pat_infer_problems.specs.Problems.{IsProblemOf}
use Rattle.pat_infer_problems.specs.declared.problem.Problem.{Problem}
use Rattle.pat_solve_spec.specs.Assignments.{vars_in}
use Rattle.pat_solve_spec.specs.Answers.{values_of, IsSmall, IsConstraint, IsCoveredUnder, HasPatterns}
use Rattle.pat_solve_bounded.specs.declared.measured.Measured.{Measured}
use Rattle.pat_solve_bounded.specs.Views.{measured_list}
use Rattle.pat_solve_bounded.specs.replacing.Ascending.{paired}
use Rattle.pat_solve_closed_forms.specs.declared.checking.Finding.{Finding}
use Rattle.pat_solve_closed_forms.specs.declared.checking.Finding.TheVariants as finding
use Rattle.pat_solve_closed_forms.specs.declared.values.ClosedValues.{ClosedValues}
use Rattle.pat_solve_closed_forms.specs.declared.values.ClosedValues.TheVariants.{Covered, TooLarge, Uncovered}

-- the problem is that of a well-formed program in which no rule of inference is broken
pub record IsInferred (p : Program) (q : Problem) : Type 0 where
  pub well : WellFormed (program_view p)
  pub clean : (inferred (program_view p)).findings ≡ []
  pub problem : IsProblemOf p q

-- the values of the interface's variables are those of the closed-form assignment
pub record AreValuesOf (p : core.Program) (i : ℕ) (ms : List Measured) : Type 0 where
  pub as_many : length ms ≡ length (vars_in i 1 (all_vars p))
  pub values : paired (vars_in i 1 (all_vars p)) (measured_list ms) ≡ values_of p i

-- the closed-form assignment isn't too large, and constraint n is the interface's first that isn't directly covered
pub record IsFirstUncovered (p : core.Program) (i n : ℕ) : Type 0 where
  pub small : IsSmall p i
  pub constraint : Constraint
  pub at : IsConstraint p n constraint
  pub own : constraint.interface ≡ i
  pub uncovered : IsCoveredUnder p constraint → ⊥
  pub before : (m : ℕ) (c : Constraint) → m < n → IsConstraint p m c → c.interface ≡ i → IsCoveredUnder p c

-- the values of interface i are patterns, or their assignment is too large, or a constraint isn't covered
abbrev pub ValuesAre : core.Program → ℕ → ClosedValues → Type 0
ValuesAre p i (Covered ms) = HasPatterns p i × AreValuesOf p i ms
ValuesAre p i TooLarge = IsSmall p i → ⊥
ValuesAre p i (Uncovered n) = IsFirstUncovered p i n

-- the answer by what is found
abbrev pub answer_of : Finding → List Measured → ClosedValues
answer_of finding.Covered ms = Covered ms
answer_of (finding.Uncovered n) ms = Uncovered n
answer_of finding.TooLarge ms = TooLarge

-- it is the answer by what is found of the constraints
abbrev pub AnswersBy : (Finding → Type 0) → List Measured → ClosedValues → Type 0
AnswersBy IsFound ms r = (f : Finding) × IsFound f × (r ≡ answer_of f ms)
