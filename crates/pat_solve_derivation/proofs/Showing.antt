-- What a solution of a problem shows.
use Rattle.std.proofs.Common.{◌≡◌, ℕ, List, [], sym, ◌∙◌, subst}
use Rattle.std.proofs.lemmas.List.{length-map}
use Rattle.pat_semantics_spec.specs.WellFormed.{WellFormed}
use Rattle.pat_semantics_spec.specs.Programs as model
use Rattle.pat_inclusion_spec.specs.Values.{VarLine}
use Rattle.pat_derivation_spec.specs.Derivations.{Derivation}
use Rattle.pat_derivation_spec.specs.Validity.{IsValid}
use Rattle.pat_infer_spec.specs.Walk.{inferred}
use Rattle.pat_solve_spec.specs.Derived.{Form, ValuesShow}
use Rattle.pat_solve_spec.specs.Laws.{DerivedIsValid, SolvedShows}
use Rattle.pat_core.specs.declared.program.Program.{Program}
use Rattle.pat_core.specs.Views.{program_view, node_view}
use Rattle.pat_derivations.specs.Views.{vars_view}
use Rattle.pat_infer_problems.specs.Problems.{IsProblemOf}
use Rattle.pat_infer_problems.specs.declared.problem.Problem.{Problem}
use Rattle.pat_solve_bounds.specs.declared.results.solution.Solution.{Solution}
use Rattle.pat_solve_bounds.specs.results.Views.{forms_of, IsSolution}
use Rattle.pat_solve_derivation.specs.Lines.{IsFound}
use Rattle.pat_solve_derivation.specs.Made.{IsDerived}

pub found_types : (p : Program) (q : Problem) → IsProblemOf p q → IsFound (program_view p) q.nodes
found_types p q h = record { count = h.count ∙ sym (length-map p.nodes node_view); at = h.nodes }

pub solution_shows : SolvedShows → (p : model.Program) (s : Solution) → WellFormed p → (inferred p).findings ≡ [] → IsSolution p s → ValuesShow p (vars_view s.values) (forms_of s.bounds)
solution_shows law p s well clean h =
    subst (λ (vars : List VarLine). ValuesShow p vars (forms_of s.bounds)) (sym h.values) (law p (forms_of s.bounds) h.points well clean h.right)

pub derived_valid : DerivedIsValid → (p : model.Program) (vars : List VarLine) (forms : ℕ → Form) (d : Derivation) → WellFormed p → (inferred p).findings ≡ [] → ValuesShow p vars forms → IsDerived p vars forms d → IsValid p d
derived_valid law p vars forms d well clean show h = subst (IsValid p) (sym h.is) (law p vars forms h.certs well clean show h.made)
