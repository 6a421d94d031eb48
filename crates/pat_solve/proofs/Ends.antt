-- The beginning and the end; and what refusals say of typings.
use Rattle.std.proofs.Common.{◌≡◌, ℕ, suc, true, false, ◌<◌, [], length, map, Option, Some, None, Result, Ok, Err, slice_get, refl, sym, ap, subst, arith}
use Rattle.std.specs.Prelude.{IfErr}
use Rattle.std.proofs.lemmas.List.{length-map}
use Rattle.pat_semantics_spec.specs.Programs.{Program}
use Rattle.pat_semantics_spec.specs.WellFormed.{WellFormed}
use Rattle.pat_bags.specs.Views.{word_of}
use Rattle.pat_witnesses.specs.Views.{bound_view}
use Rattle.pat_witnesses.specs.declared.search.Refutation.{Refutation}
use Rattle.pat_core.specs.declared.program.Program.{Program as CodeProgram}
use Rattle.pat_core.specs.Views.{program_view}
use Rattle.pat_derivations.specs.Views.{vars_view, var_view}
use Rattle.pat_infer_spec.specs.Constraints.{Constraint}
use Rattle.pat_infer_spec.specs.Walk.{inferred, all_vars}
use Rattle.pat_infer_problems.specs.Views.{placed_variable, placed_variable_of}
use Rattle.pat_infer_problems.specs.declared.problem.Problem.{Problem}
use Rattle.pat_infer_problems.specs.Problems.{IsProblemOf}
use Rattle.pat_solve_spec.specs.Answers as answers
use Rattle.pat_solve_spec.specs.Answers.{AllUsable, NoneTooLarge, NoneOpen, IsConstraint, IsRefuted, IsUndecided, IsRight, solution, values_from}
use Rattle.pat_solve_spec.specs.Laws.{AreThere, RefutedIsUntypable, LargeIsUntypable, SolvedExactly}
use Rattle.pat_solve_bounds.specs.results.Views.{forms_of, IsSolution, IsRefusal, IsAnswer, IsUntypable, IsComplete}
use Rattle.pat_solve_bounds.specs.declared.results.solution.Solution.{Solution}
use Rattle.pat_solve_bounds.specs.declared.results.error.SolveError.{SolveError}
use Rattle.pat_solve_bounds.specs.declared.results.error.SolveError.TheVariants as error
use Rattle.pat_solve.specs.Smallest.{IsSmallest, IsBestRefusal, IsBestAnswer}
use Rattle.pat_solve.specs.interface.Found.{IsShut, IsUnshownBy}
use Rattle.pat_solve.specs.declared.interface.forms.Unshown.{Unshown}
use Rattle.pat_solve.specs.declared.states.Progress.{Progress}
use Rattle.pat_solve.specs.Steps.{IsBegun, IsErrorBy, FinishesBy, Finishes}
use Rattle.pat_solve.specs.States.{FirstIs, AreSolved, Stands}
use Rattle.pat_solve.proofs.Lines.{lines_are}

-- ---- the beginning

pub begun_stands : (p : CodeProgram) (q : Problem) (s : Progress) → IsProblemOf p q → AllUsable (program_view p) → IsBegun (length q.vars) s → Stands (program_view p) 0 s
begun_stands p q s problem usable begun = record {
  usable = usable;
  small = λ j below large. absurd (omega (arith, below));
  first = subst (FirstIs (program_view p) 0) (sym begun.first) (λ m c at below. absurd (omega (arith, below)));
  solved = λ none. record {
    points = λ i k. [];
    count = ap length begun.bounds;
    as_many =
        let a : length (map placed_variable_of q.vars) ≡ length q.vars = length-map q.vars placed_variable_of in
        let b : length (map placed_variable_of q.vars) ≡ length (map (placed_variable p) (all_vars (program_view p))) = ap length problem.vars in
        let c : length (map (placed_variable p) (all_vars (program_view p))) ≡ length (all_vars (program_view p)) = length-map (all_vars (program_view p)) (placed_variable p) in
        let d = begun.values in
        omega (arith, a, b, c, d);
    forms = λ j below. absurd (omega (arith, below));
    inside = λ n c at below searched. absurd (omega (arith, below));
    filled = λ k v at below. absurd (omega (arith, below));
  };
}

module _ (p : Program) (there : AreThere p) where
  -- ---- all constraints are shown

  solution_is : (s : Progress) (t : Solution) → AllUsable p → AreSolved p (length p.interfaces) s.bounds s.values → t.bounds ≡ s.bounds → t.values ≡ s.values → IsSolution p t
  solution_is s t usable solved bounds values =
      let kept : AreSolved p (length p.interfaces) t.bounds t.values = subst (λ v. AreSolved p (length p.interfaces) t.bounds v) (sym values) (subst (λ b. AreSolved p (length p.interfaces) b s.values) (sym bounds) solved) in
      record {
        points = kept.points;
        right = (usable, kept.forms, λ n c at searched. kept.inside n c at (there.constraints n c at) searched);
        count = kept.count;
        values =
            let a : length (vars_view t.values) ≡ length t.values = length-map t.values var_view in
            let b = kept.as_many in
            lines_are p (forms_of t.bounds) kept.points 1 (all_vars p) (vars_view t.values) (omega (arith, a, b))
            (λ k j v e at.
            let number : suc k ≡ j = omega (arith, e) in
            subst (λ m. slice_get (vars_view t.values) k ≡ Some (record { interface = v.interface; value = answers.value_by p kept.points (forms_of t.bounds v.interface) v.interface m })) number
            (kept.filled k v at (there.variables (suc k) v (k, refl, at))));
      }

  -- ---- one of them isn't

  none_before : (n : ℕ) → ((m : ℕ) (c : Constraint) → m < n → IsConstraint p m c → c.interface < length p.interfaces → IsShut p m) → NoneOpen p n
  none_before n shut = record {
    refuted = λ m w b less is. (shut m is.constraint less is.at (there.constraints m is.constraint is.at)).refuted w b is;
    undecided = λ m less is. (shut m is.constraint less is.at (there.constraints m is.constraint is.at)).undecided is;
  }

  error_refusal : (n : ℕ) (r : Option Refutation) (e : SolveError) → AllUsable p → NoneTooLarge p (length p.interfaces) → NoneOpen p n → IsUnshownBy p n r → IsErrorBy n r e → IsBestRefusal p e
  error_refusal n (Some r) (error.Refuted m q) usable small none is by =
      let all : IsBestRefusal p (error.Refuted n r) = ((usable, small, is.0, none), is.1) in
      subst (λ x. IsBestRefusal p (error.Refuted m x)) (sym by.1) (subst (λ k. IsBestRefusal p (error.Refuted k r)) (sym by.0) all)
  error_refusal n None (error.Undecided m) usable small none is by =
      let all : IsRefusal p (error.Undecided n) = (usable, small, is, none) in
      subst (λ k. IsRefusal p (error.Undecided k)) (sym by) all
  error_refusal n (Some r) error.NoMemory usable small none is by = tt
  error_refusal n None error.NoMemory usable small none is by = tt
  error_refusal n (Some r) (error.Undecided m) usable small none is by = absurd by
  error_refusal n (Some r) (error.Unusable k) usable small none is by = absurd by
  error_refusal n (Some r) (error.TooLarge i) usable small none is by = absurd by
  error_refusal n None (error.Refuted m q) usable small none is by = absurd by
  error_refusal n None (error.Unusable k) usable small none is by = absurd by
  error_refusal n None (error.TooLarge i) usable small none is by = absurd by

  -- ---- the end

  ends : (s : Progress) (o : Option Unshown) (r : Result Solution SolveError) → AllUsable p → NoneTooLarge p (length p.interfaces) → FirstIs p (length p.interfaces) o → (o ≡ None → AreSolved p (length p.interfaces) s.bounds s.values) → FinishesBy s o r → IsBestAnswer p r
  ends s None (Ok t) usable small shown solved by = solution_is s t usable (solved refl) by.0 by.1
  ends s None (Err e) usable small shown solved by = absurd by
  ends s (Some o) (Ok t) usable small shown solved by = absurd by
  ends s (Some o) (Err e) usable small shown solved by = error_refusal o.constraint o.refutation e usable small (none_before o.constraint shown.before) shown.unshown by

  pub finished_answer : (s : Progress) (r : Result Solution SolveError) → Stands p (length p.interfaces) s → Finishes s r → IsBestAnswer p r
  finished_answer s r stands by = ends s s.first r stands.usable stands.small stands.first stands.solved by

-- ---- what the best answer says

module _ (p : Program) where
  refusal_of : (e : SolveError) → IsBestRefusal p e → IsRefusal p e
  refusal_of (error.Refuted n r) is = is.0
  refusal_of (error.Unusable k) is = is
  refusal_of (error.TooLarge i) is = is
  refusal_of (error.Undecided n) is = is
  refusal_of error.NoMemory is = tt

  smallest_of : (e : SolveError) → IsBestRefusal p e → IsSmallest p e
  smallest_of (error.Refuted n r) is = is.1
  smallest_of (error.Unusable k) is = tt
  smallest_of (error.TooLarge i) is = tt
  smallest_of (error.Undecided n) is = tt
  smallest_of error.NoMemory is = tt

  pub exact : (r : Result Solution SolveError) → IsBestAnswer p r → IsAnswer p r
  exact (Ok s) is = is
  exact (Err e) is = refusal_of e is

  pub smallest : (r : Result Solution SolveError) → IsBestAnswer p r → IfErr r (IsSmallest p)
  smallest (Ok s) is = tt
  smallest (Err e) is = smallest_of e is

-- ---- what refusals say

module _ (p : Program) (well : WellFormed p) where
  untypable_of : RefutedIsUntypable → LargeIsUntypable → (e : SolveError) → IsRefusal p e → IsUntypable p e
  untypable_of refuted large (error.Refuted n r) is = refuted p n (word_of r.word) (bound_view r.tree) well is
  untypable_of refuted large (error.TooLarge i) is = large p i well is
  untypable_of refuted large (error.Unusable k) is = tt
  untypable_of refuted large (error.Undecided n) is = tt
  untypable_of refuted large error.NoMemory is = tt

  pub untypable : RefutedIsUntypable → LargeIsUntypable → (r : Result Solution SolveError) → IsAnswer p r → IfErr r (IsUntypable p)
  untypable refuted large (Ok s) is = tt
  untypable refuted large (Err e) is = untypable_of refuted large e is

  not_solved : false ≡ true → ⊥
  not_solved e = cc

  complete_of : SolvedExactly → (inferred p).findings ≡ [] → (e : SolveError) → IsRefusal p e → IsComplete p e
  complete_of exactly clean (error.Refuted n r) is = λ bounds usable typable. not_solved ((exactly p (answers.Refuted n (word_of r.word) (bound_view r.tree)) well clean bounds usable is).1 typable)
  complete_of exactly clean (error.TooLarge i) is = λ bounds usable typable. not_solved ((exactly p (answers.TooLarge i) well clean bounds usable is).1 typable)
  complete_of exactly clean (error.Unusable k) is = λ bounds usable typable. not_solved ((exactly p (answers.Unusable k) well clean bounds usable is).1 typable)
  complete_of exactly clean (error.Undecided n) is = λ bounds usable typable. not_solved ((exactly p (answers.Undecided n) well clean bounds usable is).1 typable)
  complete_of exactly clean error.NoMemory is = tt

  pub complete : SolvedExactly → (inferred p).findings ≡ [] → (r : Result Solution SolveError) → IsAnswer p r → IfErr r (IsComplete p)
  complete exactly clean (Ok s) is = tt
  complete exactly clean (Err e) is = complete_of exactly clean e is
