-- What a guard adds to what its branches found.
use Rattle.std.specs.Prelude.{◌≡◌, ℕ, List, [], map, None, Result, Ok, Err}
use Rattle.pat_semantics_spec.specs.Programs.{Program}
use Rattle.pat_infer_spec.specs.Constraints.{Found}
use Rattle.pat_infer_spec.specs.Branches.{Arm}
use Rattle.pat_infer_spec.specs.Walk.{Arms, guard_found}
use Rattle.pat_core.specs.declared.program.Program.{Program as CodeProgram}
use Rattle.pat_core.specs.Views.{clause_view}
use Rattle.pat_patterns.specs.Views.{pattern_view}
use Rattle.pat_types.specs.Views.{needs_view}
use Rattle.pat_types.specs.declared.types.MailboxType.{MailboxType}
use Rattle.pat_infer_problems.specs.Views.{placed_variable, placed_constraint}
use Rattle.pat_infer_problems.specs.Results.{first_of, Refuses}
use Rattle.pat_infer_problems.specs.Growing.{Grows}
use Rattle.pat_infer_problems.specs.declared.problem.Problem.{Problem}
use Rattle.pat_infer_problems.specs.declared.error.InferError.{InferError}
use Rattle.pat_infer_terms.specs.declared.branches.guards.Guarded.{Guarded}

-- branches of which only the needs are looked at
abbrev pub bare : List Arm → Arms
bare arms = record { arms = arms; vars = []; constraints = []; nodes = []; findings = [] }

-- the guard's own, where new variables are numbered from k
abbrev pub own_guard : Program → Guarded → ℕ → List Arm → Found
own_guard p g k arms = guard_found p g.function g.node k g.variable (pattern_view g.pattern.now) g.interface g.has_free (map clause_view g.clauses.now) (bare arms)
