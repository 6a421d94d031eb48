use Rattle.std.proofs.Common.{[], replicate, Some, arith}
use Rattle.pat_infer_problems.specs.declared.problem.Constraint.{Constraint}
use Rattle.pat_solve_bounds.specs.lower_bounds.Rows.{put_all}
use Rattle.pat_solve_bounds.proofs.Numbering.{put_next, put_ended}
use Rattle.pat_solve_bounds.proofs.lower_bounds.indexing.constraints_by_interface.Goals as goal

pub loop-constraint-preserved : goal.loop-constraint-preserved
loop-constraint-preserved c =
    let i = c.loop-constraint.constraint-index in
    let n = c.loop-constraint.number in
    let xs = c.args.constraints.now in
    let h = c.loop-constraint.invariant in (
      (let e = h.0 in omega arith),
      put_next (λ (c : Constraint). Some c.interface) n i xs c.loop-constraint.rows c.put.new.rows (put_all (λ (c : Constraint). Some c.interface) 0 xs (replicate c.args.interfaces [])) c.constraint-item.result c.loop-constraint-test.true c.constraint-item.is c.in_ok-put.ensures h.1,
    )

pub returns : goal.returns
returns c =
    let xs = c.args.constraints.now in
    put_ended (λ (c : Constraint). Some c.interface) c.loop-constraint.number c.loop-constraint.constraint-index xs c.loop-constraint.rows (put_all (λ (c : Constraint). Some c.interface) 0 xs (replicate c.args.interfaces [])) (let e = c.loop-constraint-test.false in omega arith) c.loop-constraint.invariant.1
