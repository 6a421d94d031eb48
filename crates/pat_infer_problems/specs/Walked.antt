-- What a walk does to a problem, against what the definition finds.
use Rattle.std.specs.Prelude.{◌≡◌, ℕ, List, map, None, Result, Ok, Err}
use Rattle.pat_infer_spec.specs.Constraints.{Found}
use Rattle.pat_core.specs.declared.program.Program.{Program}
use Rattle.pat_types.specs.Views.{needs_view}
use Rattle.pat_types.specs.declared.types.MailboxType.{MailboxType}
use Rattle.pat_infer_problems.specs.Views.{placed_variable, placed_constraint}
use Rattle.pat_infer_problems.specs.Results.{Refuses, first_of}
use Rattle.pat_infer_problems.specs.Growing.{Grows}
use Rattle.pat_infer_problems.specs.declared.problem.Problem.{Problem}
use Rattle.pat_infer_problems.specs.declared.error.InferError.{InferError}

-- no rule is broken; what is needed is found, and the problem has the variables, the constraints and the nodes besides
pub record IsWalked (p : Program) (old new : Problem) (needs : List (ℕ × MailboxType)) (r : Found) : Type 0 where
  pub needed : needs_view needs ≡ r.needs
  pub grows : Grows old new (map (placed_variable p) r.vars) (map (placed_constraint p) r.constraints) r.nodes
  pub clean : first_of r.findings ≡ None

-- the same, or the first broken rule
abbrev pub Infers : Program → Problem → Problem → Result (List (ℕ × MailboxType)) InferError → Found → Type 0
Infers p old new (Ok needs) r = IsWalked p old new needs r
Infers p old new (Err e) r = Refuses p e r.findings
