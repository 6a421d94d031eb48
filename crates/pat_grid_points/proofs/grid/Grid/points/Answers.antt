use Rattle.std.proofs.Common.{◌≤◌, false, ◌∙◌, ◌++◌, ap, sym, map, length, drop, arith}
use Rattle.pat_bags.specs.Views.{word_of}
use Rattle.pat_grid_points.specs.Views.{held_from}
use Rattle.pat_grid_points.proofs.Sets.{held_all, held_next, held_turn}
use Rattle.pat_grid_points.proofs.Listed.{listed_fit}
use Rattle.pat_grid_points.proofs.grid.Grid.points.Goals as goal

pub loop-number-init : goal.loop-number-init
loop-number-init c =
    let s = c.args.self.now in
    let first = c.next_held-number.result in
    let next = c.next_held-number.ensures in (
      next.within,
      next.there,
      ap (λ bags. map word_of bags ++ held_from s.k s.tags first (drop first s.held)) c.new-bags.ensures
          ∙ sym (held_next s.k s.tags 0 first s.held (omega arith) next.within next.before),
    )

pub loop-number-preserved : goal.loop-number-preserved
loop-number-preserved c =
    let s = c.args.self.now in
    let number = c.loop-number.number in
    let below = c.loop-number-test.true in
    let count = c.len.ensures in
    let here = c.loop-number.invariant.1 (omega arith) in
    let run = c.same_until-end.ensures in
    let past = run.past in
    let next = c.next_held-number-in-loop-number.ensures in (
      next.within,
      next.there,
      held_turn s.k s.tags number c.same_until-end.result c.next_held-number-in-loop-number.result s.held c.loop-number.bags c.list_run.new.bags (omega arith) run.within (λ d a b. run.same d false a b ∙ here) c.in_ok-list_run.ensures next.from next.within next.before
          ∙ c.loop-number.invariant.2,
    )

pub returns-clause-ascend : goal.returns-clause-ascend
returns-clause-ascend c =
    let s = c.args.self.now in
    let number = c.loop-number.number in
    let past = c.loop-number-test.false in
    let count = c.len.ensures in
    let none : length s.held ≤ number = omega arith in
    let all = held_all s.k s.tags number s.held (map word_of c.loop-number.bags) none in
    listed_fit c.number_laws.ensures.order s.k s.tags s.held c.loop-number.bags s.fits s.counted (sym all ∙ c.loop-number.invariant.2)
