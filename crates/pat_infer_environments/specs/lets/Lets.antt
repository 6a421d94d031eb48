-- What a let adds to what its parts found.
use Rattle.std.specs.Prelude.{◌≡◌, ℕ, List, [], map, None, Result, Ok, Err}
use Rattle.pat_type_schemes_spec.specs.NodeTypes.{Needs}
use Rattle.pat_infer_spec.specs.Constraints.{Found}
use Rattle.pat_infer_spec.specs.Walk.{let_gathered, let_findings}
use Rattle.pat_core.specs.declared.program.Program.{Program as CodeProgram}
use Rattle.pat_types.specs.Views.{needs_view}
use Rattle.pat_types.specs.declared.types.MailboxType.{MailboxType}
use Rattle.pat_infer_problems.specs.Views.{placed_variable, placed_constraint}
use Rattle.pat_infer_problems.specs.Results.{first_of, Refuses}
use Rattle.pat_infer_problems.specs.Growing.{Grows}
use Rattle.pat_infer_problems.specs.declared.problem.Problem.{Problem}
use Rattle.pat_infer_problems.specs.declared.error.InferError.{InferError}

-- the let's own, where new variables are numbered from k, by what its bound part needs and its body beside the name
abbrev pub own_let : ℕ → ℕ → Needs → Needs → Found
own_let n k bound body = record {
  needs = (let_gathered n k bound body).needs;
  vars = (let_gathered n k bound body).vars;
  constraints = (let_gathered n k bound body).constraints;
  nodes = [];
  findings = let_findings n bound body;
}
