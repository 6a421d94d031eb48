-- What the walk of a term does to a problem, against what the definition finds.
use Rattle.std.specs.Prelude.{◌≡◌, List, map, None, Result, Ok, Err, option_map}
use Rattle.pat_infer_spec.specs.Constraints.{Found}
use Rattle.pat_infer_spec.specs.Branches as branches
use Rattle.pat_infer_spec.specs.Walk.{Arms}
use Rattle.pat_core.specs.declared.program.Program.{Program}
use Rattle.pat_core.specs.Views.{program_view, clause_view}
use Rattle.pat_infer_problems.specs.Views.{placed_variable, placed_constraint}
use Rattle.pat_infer_problems.specs.Results.{Refuses, first_of}
use Rattle.pat_infer_problems.specs.Growing.{Grows}
use Rattle.pat_infer_problems.specs.declared.problem.Problem.{Problem}
use Rattle.pat_infer_problems.specs.declared.error.InferError.{InferError}
use Rattle.pat_infer_problems.specs.signatures.Opened.{signatures_from}
use Rattle.pat_infer_problems.specs.signatures.Views.{signature_view}
use Rattle.pat_infer_terms.specs.branches.Arms.{arm_view}
use Rattle.pat_infer_terms.specs.declared.branches.arms.WalkedArm.{WalkedArm}
use Rattle.pat_infer.specs.declared.walk.walk.Signed.{Signed}
use Rattle.pat_infer.specs.declared.walk.walk.Branch.{Branch}

-- the signatures are the program's
abbrev pub IsSigned : Signed → Type 0
IsSigned s = map signature_view s.signatures.now ≡ signatures_from 1 (program_view s.program.now).functions

abbrev pub branch_view : Branch → branches.Branch
branch_view b = record { body = b.body; clause = option_map (λ r. clause_view r.now) b.clause }

-- branches of which no rule is broken
pub record AreWalked (p : Program) (old new : Problem) (arms : List WalkedArm) (r : Arms) : Type 0 where
  pub parts : map arm_view arms ≡ r.arms
  pub grows : Grows old new (map (placed_variable p) r.vars) (map (placed_constraint p) r.constraints) r.nodes
  pub clean : first_of r.findings ≡ None

abbrev pub InfersArms : Program → Problem → Problem → Result (List WalkedArm) InferError → Arms → Type 0
InfersArms p old new (Ok arms) r = AreWalked p old new arms r
InfersArms p old new (Err e) r = Refuses p e r.findings

-- no rule is broken, and the problem has the variables, the constraints and the nodes
pub record HasGrown (p : Program) (old new : Problem) (r : Found) : Type 0 where
  pub grows : Grows old new (map (placed_variable p) r.vars) (map (placed_constraint p) r.constraints) r.nodes
  pub clean : first_of r.findings ≡ None

-- the same, or the first broken rule
abbrev pub Finds : {A : Type 0} → Program → Problem → Problem → Result A InferError → Found → Type 0
Finds p old new (Ok x) r = HasGrown p old new r
Finds p old new (Err e) r = Refuses p e r.findings
