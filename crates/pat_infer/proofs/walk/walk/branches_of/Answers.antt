use Rattle.std.proofs.Common.{◌+◌, ◌++◌, List, drop, map, ap, sym, ◌∙◌}
use Rattle.pat_infer_spec.specs.Walk.{branches_of}
use Rattle.pat_core.specs.declared.program.Clause.{Clause}
use Rattle.pat_core.specs.Views.{clause_view}
use Rattle.pat_infer.specs.walk.Walking.{branch_view}
use Rattle.pat_infer.proofs.Parts.{row_from}
use Rattle.pat_infer.proofs.walk.walk.branches_of.Goals as goal

pub loop-clause-preserved : goal.loop-clause-preserved
loop-clause-preserved c =
    let row = row_from c.args.clauses.now c.loop-clause.clause-index c.clause-item.result c.loop-clause-test.true c.clause-item.is in
    c.in_ok-waiting.ensures (drop (c.loop-clause.clause-index + 1) c.args.clauses.now)
    ∙ ap (λ (ds : List Clause). map branch_view c.loop-clause.branches.items ++ branches_of c.loop-clause.waiting (map clause_view ds)) (sym row)
    ∙ c.loop-clause.invariant
