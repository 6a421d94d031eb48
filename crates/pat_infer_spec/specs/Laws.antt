-- Inference against typings: it loses nothing, and what it finds is enough.
use Rattle.std.specs.Prelude.{◌≡◌, ℕ, Bool, true, false, List, [], ◌∷◌, ◌↔◌, IsTrue}
use Rattle.std.specs.List.{AllByRecursion}
use Rattle.pat_words_spec.specs.Patterns.{Pat, Var, In, Included}
use Rattle.pat_semantics_spec.specs.Programs.{Program}
use Rattle.pat_semantics_spec.specs.WellFormed.{WellFormed}
use Rattle.pat_type_system_spec.specs.Typings.{Typing, IsTyping, IsTypable}
use Rattle.pat_type_schemes_spec.specs.Signatures.{signature_vars}
use Rattle.pat_infer_spec.specs.Constraints.{Constraint, Finding}
use Rattle.pat_infer_spec.specs.Walk.{inferred, all_vars}
use Rattle.pat_infer_spec.specs.Solutions.{MeetsUnder, IsPatternSolution, SendersHaveWords, GivesFrom, typing_found}

-- a program in which a rule is broken can't be typed
abbrev pub BrokenIsUntypable : Type 0
BrokenIsUntypable =
    (p : Program) (x : Finding) (xs : List Finding) → WellFormed p → (inferred p).findings ≡ x ∷ xs → IsTypable p → ⊥

-- the patterns of a typing solve the constraints
abbrev pub TypingSolves : Type 0
TypingSolves =
    (p : Program) (y : Typing) (s : ℕ → Pat) → WellFormed p → IsTyping p y → GivesFrom y s 1 (all_vars p) → IsPatternSolution p s

-- where a program can be typed its constraints have a solution in which the sending variables of signatures have words
abbrev pub TypableIsSolved : Type 0
TypableIsSolved =
    (p : Program) → WellFormed p → IsTypable p → (s : ℕ → Pat) × IsPatternSolution p s × SendersHaveWords s 1 (signature_vars p)

-- where no rule is broken such a solution gives a typing
abbrev pub SolutionTypes : Type 0
SolutionTypes =
    (p : Program) (s : ℕ → Pat) → WellFormed p → (inferred p).findings ≡ [] → IsPatternSolution p s → SendersHaveWords s 1 (signature_vars p) → IsTyping p (typing_found p s)

-- a program can be typed just where no rule is broken and the constraints have such a solution
abbrev pub TypableExactly : Type 0
TypableExactly =
    (p : Program) → WellFormed p → IsTypable p ↔ (((inferred p).findings ≡ []) × ((s : ℕ → Pat) × IsPatternSolution p s × SendersHaveWords s 1 (signature_vars p)))

-- whether the pattern is a variable
abbrev pub is_variable : Pat → Bool
is_variable (Var k) = true
is_variable _ = false

-- the right side of the constraint is a variable
abbrev pub is_lower : Constraint → Bool
is_lower c = is_variable c.right

-- below a solution, an assignment need only meet what bounds variables from below
abbrev pub LeastSolves : Type 0
LeastSolves =
    (p : Program) (values : ℕ → Pat) (least : ℕ → Pat) → WellFormed p → (inferred p).findings ≡ [] → IsPatternSolution p values → ((k : ℕ) → Included (least k) (values k)) → AllByRecursion (λ c. IsTrue (is_lower c) → MeetsUnder (λ k. In (least k)) c) (inferred p).constraints → IsPatternSolution p least
