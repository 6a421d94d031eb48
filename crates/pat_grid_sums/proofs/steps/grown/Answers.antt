use Rattle.std.proofs.Common.{length, sym, subst}
use Rattle.pat_grid_sums.specs.Systems.{AreSets}
use Rattle.pat_grid_sums.proofs.Stepping.{grown_joined}
use Rattle.pat_grid_sums.proofs.steps.grown.Goals as goal

pub join_set-requires : goal.join_set-requires
join_set-requires c =
    let n = length c.args.system.now.symbols.now in
    (n, subst (λ m. AreSets n m c.args.sets.now) (sym c.in_ok-words.ensures.as_many) c.requires.sets)

pub returns : goal.returns
returns c =
    grown_joined c.args.system.now c.args.shape c.requires.system c.requires.shape c.args.sets.now c.args.s c.in_ok-words.words c.join_set.new.words c.in_ok-words.ensures c.join_set.ensures
