use Rattle.std.proofs.Common.{sym, subst, arith}
use Rattle.pat_inclusion_spec.specs.bounds.Tables.{IsKnown}
use Rattle.pat_grid.proofs.Listing.{tested_begun, tested_filled, tested_row}
use Rattle.pat_grid.proofs.rows.row.Goals as goal

pub loop-number-init : goal.loop-number-init
loop-number-init c =
    let first = c.next_known-number.ensures in (
      first.within,
      first.there,
      tested_begun c.args.board.now c.args.entries.now c.args.s c.next_known-number.result c.in_ok-held.held c.in_ok-held.ensures first.before,
    )

pub fill-requires : goal.fill-requires
fill-requires c =
    let count = c.loop-number.invariant.2.count in
    let within = c.alike_until-end.ensures.within in
    let past = c.alike_until-end.ensures.past in
    omega arith

pub loop-number-preserved : goal.loop-number-preserved
loop-number-preserved c =
    let next = c.next_known-number-in-loop-number.ensures in
    let to = c.alike_until-end.ensures in
    let b = c.args.board.now in
    let known = c.loop-number.invariant.1 c.loop-number-test.true in (
      next.within,
      next.there,
      tested_filled b c.args.entries.now c.args.s c.loop-number.number c.alike_until-end.result c.next_known-number-in-loop-number.result c.loop-number.held c.fill.new.self to.past to.within c.loop-number.invariant.2 (λ d from upto. subst (IsKnown b.limit) (sym (to.same d from upto)) known) c.in_ok-fill.ensures next.from next.before,
    )

pub from_held-requires-clause-counted : goal.from_held-requires-clause-counted
from_held-requires-clause-counted c =
    let count = c.loop-number.invariant.2.count in
    let points = c.requires.board.points in
    omega arith

pub returns : goal.returns
returns c =
    let past = c.loop-number-test.false in
    tested_row c.args.board.now c.args.entries.now c.args.s c.loop-number.number c.loop-number.held c.from_held.result (omega arith) c.loop-number.invariant.2 c.from_held.ensures
