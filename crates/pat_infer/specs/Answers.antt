-- What inference answers of a program, and what it comes to on the way.
use Rattle.std.specs.Prelude.{◌≡◌, List, [], length, map, None, Result, Ok, Err}
use Rattle.pat_semantics_spec.specs.Programs as core
use Rattle.pat_type_system_spec.specs.Typings.{IsTypable}
use Rattle.pat_type_schemes_spec.specs.NodeTypes.{NodeType}
use Rattle.pat_infer_spec.specs.Walk.{inferred, all_vars}
use Rattle.pat_core.specs.declared.program.Program.{Program}
use Rattle.pat_core.specs.Views.{program_view}
use Rattle.pat_types.specs.Views.{node_type_view}
use Rattle.pat_infer_problems.specs.Views.{placed_variable, placed_variable_of, placed_constraint, constraint_view}
use Rattle.pat_infer_problems.specs.Results.{Refuses, first_of}
use Rattle.pat_infer_problems.specs.Growing.{settled}
use Rattle.pat_infer_problems.specs.declared.problem.Problem.{Problem}
use Rattle.pat_infer_problems.specs.declared.error.InferError.{InferError}
use Rattle.pat_infer_problems.specs.declared.error.InferError.TheVariants.{Untypable, NoMemory}

-- a program is refused only where it can't be typed
abbrev pub IsUntypable : core.Program → InferError → Type 0
IsUntypable p (Untypable s r) = IsTypable p → ⊥
IsUntypable p NoMemory = Unit {0}

-- ---- on the way

-- no variable, no constraint, and a place for each node
pub record IsEmpty (p : Program) (q : Problem) : Type 0 where
  pub vars : q.vars ≡ []
  pub constraints : q.constraints ≡ []
  pub count : length q.nodes ≡ length p.nodes

-- the same problem, where the types of nodes are set one after another
pub record IsMade (p : Program) (q : Problem) : Type 0 where
  pub vars : map placed_variable_of q.vars ≡ map (placed_variable p) (all_vars (program_view p))
  pub constraints : map constraint_view q.constraints ≡ map (placed_constraint p) (inferred (program_view p)).constraints
  pub blank : List NodeType
  pub count : length blank ≡ length p.nodes
  pub nodes : map node_type_view q.nodes ≡ settled (inferred (program_view p)).nodes blank
  pub clean : first_of (inferred (program_view p)).findings ≡ None

-- it is made, or the first broken rule is answered
abbrev pub Answers : Program → Result Problem InferError → Type 0
Answers p (Ok q) = IsMade p q
Answers p (Err e) = Refuses p e (inferred (program_view p)).findings
