-- A problem that grows by the constraints of a term, unless a rule is broken.
use Rattle.std.specs.Prelude.{◌≡◌, List, [], map, None, Result, Ok, Err}
use Rattle.pat_infer_spec.specs.Constraints.{Finding, Constraint}
use Rattle.pat_core.specs.declared.program.Program.{Program}
use Rattle.pat_infer_problems.specs.Views.{placed_constraint}
use Rattle.pat_infer_problems.specs.Results.{first_of, Refuses}
use Rattle.pat_infer_problems.specs.Growing.{Grows}
use Rattle.pat_infer_problems.specs.declared.problem.Problem.{Problem}
use Rattle.pat_infer_problems.specs.declared.error.InferError.{InferError}

-- the constraints are added, and no rule is broken
pub record IsAdded (p : Program) (old new : Problem) (cs : List Constraint) (fs : List Finding) : Type 0 where
  pub grows : Grows old new [] (map (placed_constraint p) cs) []
  pub clean : first_of fs ≡ None

-- the same, or the first broken rule
abbrev pub Adds : {A : Type 0} → Program → Problem → Problem → Result A InferError → List Constraint → List Finding → Type 0
Adds p old new (Ok x) cs fs = IsAdded p old new cs fs
Adds p old new (Err e) cs fs = Refuses p e fs
