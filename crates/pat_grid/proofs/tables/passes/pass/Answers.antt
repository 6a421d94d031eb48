use Rattle.pat_grid.specs.tables.Views.{setting_of}
use Rattle.pat_grid.proofs.Relaxing.{symbol_within}
use Rattle.pat_grid.proofs.Waiting.{pass_goes_on}
use Rattle.pat_grid.proofs.tables.passes.pass.Goals as goal

pub loop-s-preserved : goal.loop-s-preserved
loop-s-preserved c =
    let b = c.args.board.now in
    pass_goes_on (setting_of b) c.loop-s.s c.args.sizes.now.entries c.loop-s.sizes c.look.new.sizes c.loop-s.waits c.look.new.waits c.loop-s.changed c.look.new.changed (symbol_within b c.loop-s.s c.loop-s-test.true) c.loop-s.invariant c.in_ok-look.ensures
