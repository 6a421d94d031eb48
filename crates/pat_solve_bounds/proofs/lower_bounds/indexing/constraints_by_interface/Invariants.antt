use Rattle.std.proofs.Common.{◌≡◌, ◌+◌, [], drop, replicate, Some}
use Rattle.pat_infer_problems.specs.declared.problem.Constraint.{Constraint}
use Rattle.pat_solve_bounds.specs.lower_bounds.Rows.{put_all}
use Rattle.pat_solve_bounds.proofs.lower_bounds.indexing.constraints_by_interface.Given as goal

-- what is put and the numbers that are left make all rows
abbrev pub invariant-loop-constraint : goal.invariant-loop-constraint
invariant-loop-constraint l =
    (l.number ≡ l.constraint-index + 0)
    × (put_all (λ (c : Constraint). Some c.interface) l.number (drop l.constraint-index l.constraints) l.rows ≡ put_all (λ (c : Constraint). Some c.interface) 0 l.constraints (replicate l.interfaces []))
