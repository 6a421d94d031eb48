use Rattle.pat_grid_points.specs.symbols.Views.{symbols_view}
use Rattle.pat_solve_grids.proofs.Laid.{system_begins, system_turn, system_end}
use Rattle.pat_solve_grids.proofs.shared.lay_system.Goals as goal

pub loop-p-init : goal.loop-p-init
loop-p-init c = system_begins (symbols_view c.args.shared.now.symbols) c.new-roots.result c.new-roots.ensures

pub loop-p-preserved : goal.loop-p-preserved
loop-p-preserved c =
    system_turn c.args.system.now c.loop-p.p-index c.p-item.result (symbols_view c.args.shared.now.symbols) (symbols_view c.loop-p.shared.symbols) (symbols_view c.lay.new.self.symbols) c.loop-p.roots c.push.new.self c.in_ok-root.root c.loop-p-test.true c.p-item.is c.loop-p.invariant c.in_ok-root.ensures c.in_ok-push.ensures.ok

pub returns : goal.returns
returns c =
    system_end c.args.system.now c.loop-p.p-index (symbols_view c.args.shared.now.symbols) (symbols_view c.loop-p.shared.symbols) c.loop-p.roots c.loop-p-test.false c.loop-p.invariant
