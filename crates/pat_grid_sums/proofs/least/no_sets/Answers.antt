use Rattle.std.proofs.Common.{◌+◌, sym, subst}
use Rattle.pat_grid_sums.specs.Systems.{AreSets, NoPoints}
use Rattle.pat_grid_sums.proofs.Looking.{sets_none, sets_more}
use Rattle.pat_grid_sums.proofs.least.no_sets.Goals as goal

pub loop-init : goal.loop-init
loop-init c = subst (λ xs. AreSets 0 c.args.words xs × NoPoints xs) (sym c.new-sets.ensures) (sets_none c.args.words)

pub loop-preserved : goal.loop-preserved
loop-preserved c =
    subst (λ xs. AreSets (c.loop.counter + 1) c.args.words xs × NoPoints xs) (sym c.in_ok-push.ensures.ok)
    (sets_more c.args.words c.loop.counter c.loop.sets c.in_ok-set.set c.in_ok-set.ensures c.loop.invariant)
