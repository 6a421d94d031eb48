use Rattle.std.proofs.Common.{[], replicate, Some, arith}
use Rattle.pat_infer_problems.specs.declared.problem.VarDecl.{VarDecl}
use Rattle.pat_solve_bounds.specs.lower_bounds.Rows.{put_all}
use Rattle.pat_solve_bounds.proofs.Numbering.{put_next_at, put_ended}
use Rattle.pat_solve_bounds.proofs.lower_bounds.indexing.variables_by_interface.Goals as goal

pub loop-declared-preserved : goal.loop-declared-preserved
loop-declared-preserved c =
    let i = c.loop-declared.declared-index in
    let n = c.loop-declared.number in
    let xs = c.args.vars.now in
    let h = c.loop-declared.invariant in (
      (let e = h.0 in omega arith),
      put_next_at (λ (c : VarDecl). Some c.interface) n i xs c.loop-declared.rows c.put.new.rows (put_all (λ (c : VarDecl). Some c.interface) 1 xs (replicate c.args.interfaces [])) _ c.loop-declared-test.true c.in_ok-put.ensures h.1,
    )

pub returns : goal.returns
returns c =
    let xs = c.args.vars.now in
    put_ended (λ (c : VarDecl). Some c.interface) c.loop-declared.number c.loop-declared.declared-index xs c.loop-declared.rows (put_all (λ (c : VarDecl). Some c.interface) 1 xs (replicate c.args.interfaces [])) (let e = c.loop-declared-test.false in omega arith) c.loop-declared.invariant.1
