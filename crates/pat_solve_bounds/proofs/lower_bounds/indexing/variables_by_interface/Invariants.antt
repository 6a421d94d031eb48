use Rattle.std.proofs.Common.{◌≡◌, ◌+◌, [], drop, replicate, Some}
use Rattle.pat_infer_problems.specs.declared.problem.VarDecl.{VarDecl}
use Rattle.pat_solve_bounds.specs.lower_bounds.Rows.{put_all}
use Rattle.pat_solve_bounds.proofs.lower_bounds.indexing.variables_by_interface.Given as goal

-- what is put and the numbers that are left make all rows
abbrev pub invariant-loop-declared : goal.invariant-loop-declared
invariant-loop-declared l =
    (l.number ≡ l.declared-index + 1)
    × (put_all (λ (c : VarDecl). Some c.interface) l.number (drop l.declared-index l.vars) l.rows ≡ put_all (λ (c : VarDecl). Some c.interface) 1 l.vars (replicate l.interfaces []))
