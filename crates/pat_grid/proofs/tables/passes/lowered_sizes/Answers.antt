use Rattle.std.proofs.Common.{Bool, sym, subst, arith, List}
use Rattle.pat_grid.specs.tables.Views.{setting_of}
use Rattle.pat_grid.specs.tables.Waiting.{Stands}
use Rattle.pat_grid.proofs.Done.{put_back}
use Rattle.pat_grid.proofs.Waiting.{none_waits}
use Rattle.pat_grid.proofs.tables.passes.lowered_sizes.Goals as goal

pub returns-then-not-changed-clause-all : goal.returns-then-not-changed-clause-all
returns-then-not-changed-clause-all c = c.in_ok-changed.ensures.stands.all

pub returns-then-not-changed-clause-done : goal.returns-then-not-changed-clause-done
returns-then-not-changed-clause-done c =
    none_waits c.args.board.now c.loop-waits.sizes.entries c.pass.new.sizes c.pass.new.waits c.in_ok-changed.changed c.requires c.if-not-changed.true c.in_ok-changed.ensures

pub loop-waits-preserved : goal.loop-waits-preserved
loop-waits-preserved c =
    let g = setting_of c.args.board.now in
    let flags = c.loop-waits.waits.items in
    let len = c.loop-waits.waits.ok.0 in
    let lent = c.deref_mut.ensures.len in
    let kept = c.pass.auto.waits in
    subst (λ (ws : List Bool). Stands g c.pass.new.sizes ws) (sym (put_back c.loop-waits.waits.len c.pass.new.waits flags (omega arith) (omega arith))) c.in_ok-changed.ensures.stands
