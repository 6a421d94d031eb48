use Rattle.std.proofs.Common.{[], replicate, arith}
use Rattle.pat_infer_problems.specs.declared.problem.Constraint.{Constraint}
use Rattle.pat_solve_bounds.specs.lower_bounds.Rows.{put_all}
use Rattle.pat_solve_bounds.specs.lower_bounds.Indexes.{right_variable}
use Rattle.pat_solve_bounds.proofs.Numbering.{put_next, put_ended}
use Rattle.pat_solve_bounds.proofs.lower_bounds.indexing.lefts_by_variable.Goals as goal

pub loop-constraint-preserved : goal.loop-constraint-preserved
loop-constraint-preserved c =
    let i = c.loop-constraint.constraint-index in
    let n = c.loop-constraint.number in
    let xs = c.args.constraints.now in
    let h = c.loop-constraint.invariant in (
      (let e = h.0 in omega arith),
      put_next (λ (c : Constraint). right_variable c.right) n i xs c.loop-constraint.rows c.put_left.new.rows (put_all (λ (c : Constraint). right_variable c.right) 0 xs (replicate c.args.count [])) c.constraint-item.result c.loop-constraint-test.true c.constraint-item.is c.in_ok-put_left.ensures h.1,
    )

pub returns : goal.returns
returns c =
    let xs = c.args.constraints.now in
    put_ended (λ (c : Constraint). right_variable c.right) c.loop-constraint.number c.loop-constraint.constraint-index xs c.loop-constraint.rows (put_all (λ (c : Constraint). right_variable c.right) 0 xs (replicate c.args.count [])) (let e = c.loop-constraint-test.false in omega arith) c.loop-constraint.invariant.1
