use Rattle.std.proofs.Common.{◌<◌, None, length, ◌∙◌, subst, length-set}
use Rattle.pat_machine.proofs.Lending.{cleared}
use Rattle.pat_machine.proofs.taking.clear.Goals as goal

pub loop-i-preserved : goal.loop-i-preserved
loop-i-preserved c =
    let within : c.loop-i.i < length c.args.out.now.items = subst (λ n. c.loop-i.i < n) (c.len-i-end.ensures ∙ c.args.out.now.ok.0) c.loop-i-test.true in
    (length-set c.loop-i.out.items c.loop-i.i None ∙ c.loop-i.invariant.0, cleared c.loop-i.out.items c.args.out.now.items c.loop-i.i within c.loop-i.invariant.1)
