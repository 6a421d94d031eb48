use Rattle.std.proofs.Common.{◌≡◌, ◌<◌, subst, arith}
use Rattle.pat_inclusion_spec.specs.bounds.Numbers.{table_of}
use Rattle.pat_grid.specs.tables.Views.{setting_of}
use Rattle.pat_grid.specs.tables.Moves.{Moved, HeldBefore}
use Rattle.pat_grid.proofs.Walking.{held_begun, held_walked}
use Rattle.pat_grid.proofs.tables.symbols.relax_held.Goals as goal

pub loop-number-init : goal.loop-number-init
loop-number-init c =
    let first = c.next_held-number.ensures in
    let counted = c.requires.counted in
    let within = first.within in (
      omega arith,
      λ l. first.there (omega arith),
      held_begun (setting_of c.args.board.now) c.args.s c.next_held-number.result c.args.held.now c.args.sizes.now c.args.changed.now first.before,
    )

pub lower-requires-clause-step : goal.lower-requires-clause-step
lower-requires-clause-step c =
    let l = c.loop-number-test.true in
    c.requires.takes (table_of (setting_of c.args.board.now) c.loop-number.sizes.entries) c.loop-number.number l (c.loop-number.invariant.1 l)

pub loop-number-preserved : goal.loop-number-preserved
loop-number-preserved c =
    let b = c.args.board.now in
    let next = c.next_held-number-in-loop-number.ensures in
    let counted = c.requires.counted in
    let within = next.within in (
      omega arith,
      λ l. next.there (omega arith),
      held_walked (setting_of b) c.args.s c.loop-number.number c.next_held-number-in-loop-number.result c.args.held.now c.args.sizes.now c.loop-number.sizes c.lower.new.sizes c.args.changed.now c.loop-number.changed c.lower.new.changed
          (subst (λ n. c.loop-number.number < n) c.requires.board.points c.loop-number-test.true) c.loop-number.invariant.2 c.in_ok-lower.ensures next.before,
    )

pub returns : goal.returns
returns c =
    let b = c.args.board.now in
    let g = setting_of b in
    let past = c.loop-number-test.false in
    let within = c.loop-number.invariant.0 in
    let end : c.loop-number.number ≡ b.points = omega arith in
    subst (λ n. Moved g c.args.s (Unit {0}) (HeldBefore g c.args.s c.args.held.now n) c.args.sizes.now c.args.changed.now c.loop-number.sizes c.loop-number.changed) end c.loop-number.invariant.2
