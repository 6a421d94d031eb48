use Rattle.std.proofs.Common.{ℕ, ◌+◌, ◌<◌, ◌≤◌, get_or, sym, subst, ◌∙◌, arith}
use Rattle.pat_grid_sums.specs.Shapes.{AreSums}
use Rattle.pat_grid.specs.tables.Views.{setting_of}
use Rattle.pat_grid.specs.tables.Moves.{entry_at, HasSums}
use Rattle.pat_grid.proofs.Relaxing.{moved_none, moved_both, moved_as, before_more}
use Rattle.pat_grid.proofs.Summing.{keeps_none, keeps_both, sum_step, sums_reached}
use Rattle.pat_grid.proofs.tables.sums.reach_sums.Goals as goal

pub list_sums-requires-clause-firsts : goal.list_sums-requires-clause-firsts
list_sums-requires-clause-firsts c = λ i l. subst (λ n. get_or c.args.firsts.now i 0 < n) c.requires.board.points (c.requires.firsts i l).0

pub list_sums-requires-clause-seconds : goal.list_sums-requires-clause-seconds
list_sums-requires-clause-seconds c = λ j l. subst (λ n. get_or c.args.seconds.now j 0 < n) c.requires.board.points (c.requires.seconds j l)

pub loop-number-init : goal.loop-number-init
loop-number-init c =
    let a = c.args in
    let g = setting_of a.board.now in
    (moved_none g a.s (Unit {0}) (λ es. (t : ℕ) → t < 0 → entry_at g es a.s (get_or c.as_slice-number-items.result.now t 0) ≤ g.limit + 1) a.sizes.now a.changed.now (λ t l. absurd (omega arith)), keeps_none g a.sizes.now.entries)

pub reach_if-requires-clause-place : goal.reach_if-requires-clause-place
reach_if-requires-clause-place c =
    let a = c.args in
    let g = setting_of a.board.now in
    let sums = subst (AreSums g.bound g.tags a.firsts.now a.seconds.now) (sym c.as_slice-number-items.ensures) c.in_ok-numbers.ensures in
    (c.requires.there, subst (λ n. get_or c.as_slice-number-items.result.now c.loop-number.number-index 0 < n) (sym c.requires.board.points) (sums.within c.loop-number.number-index c.loop-number-test.true))

pub reach_if-requires-clause-step : goal.reach_if-requires-clause-step
reach_if-requires-clause-step c = λ none.
    let a = c.args in
    let g = setting_of a.board.now in
    let points = c.requires.board.points in
    let sums = subst (AreSums g.bound g.tags a.firsts.now a.seconds.now) (sym c.as_slice-number-items.ensures) c.in_ok-numbers.ensures in
    let found = sums.only c.loop-number.number-index c.loop-number-test.true in
    let i = found.0 in
    let j = found.1 in
    let first = c.requires.firsts i found.2 in
    sum_step g a.s a.parts.0 a.parts.1 (get_or a.firsts.now i 0) (get_or a.seconds.now j 0) (get_or c.as_slice-number-items.result.now c.loop-number.number-index 0) a.sizes.now.entries c.loop-number.sizes.entries first.1
    (subst (λ n. get_or a.firsts.now i 0 < n) points first.0)
    (subst (λ n. get_or a.seconds.now j 0 < n) points (c.requires.seconds j found.3))
    (c.requires.known.0 i found.2) (c.requires.known.1 j found.3) (c.requires.within i found.2 j found.3)
    c.loop-number.invariant.1 found.4 none

pub loop-number-preserved : goal.loop-number-preserved
loop-number-preserved c =
    let a = c.args in
    let g = setting_of a.board.now in
    let s = a.s in
    let numbers = c.as_slice-number-items.result.now in
    let t = c.loop-number.number-index in
    let sums = subst (AreSums g.bound g.tags a.firsts.now a.seconds.now) (sym c.as_slice-number-items.ensures) c.in_ok-numbers.ensures in (
      moved_both g s (Unit {0}) (λ es. (i : ℕ) → i < t → entry_at g es s (get_or numbers i 0) ≤ g.limit + 1) (λ es. entry_at g es s (get_or numbers t 0) ≤ g.limit + 1) (λ es. (i : ℕ) → i < t + 1 → entry_at g es s (get_or numbers i 0) ≤ g.limit + 1) a.sizes.now c.loop-number.sizes c.reach_if.new.sizes a.changed.now c.loop-number.changed c.reach_if.new.changed c.loop-number.invariant.0 c.in_ok-reach_if.ensures.moved
          (λ o lowers before i l. let test = c.loop-number-test.true in let less = lowers.here (get_or numbers i 0) (sums.within i (omega arith)) in let was = before i l in omega arith)
          (λ before here. before_more (λ i. entry_at g c.reach_if.new.sizes.entries s (get_or numbers i 0) ≤ g.limit + 1) t before here),
      keeps_both g a.sizes.now.entries c.loop-number.sizes.entries c.reach_if.new.sizes.entries c.loop-number.invariant.1 c.in_ok-reach_if.ensures.kept,
    )

pub returns : goal.returns
returns c =
    let a = c.args in
    let g = setting_of a.board.now in
    let numbers = c.as_slice-number-items.result.now in
    let t = c.loop-number.number-index in
    let sums = subst (AreSums g.bound g.tags a.firsts.now a.seconds.now) (sym c.as_slice-number-items.ensures) c.in_ok-numbers.ensures in
    moved_as g a.s (Unit {0}) (Unit {0}) (λ es. (i : ℕ) → i < t → entry_at g es a.s (get_or numbers i 0) ≤ g.limit + 1) (HasSums g a.s a.firsts.now a.seconds.now) a.sizes.now c.loop-number.sizes a.changed.now c.loop-number.changed c.loop-number.invariant.0 (λ d. d)
    (λ o reached. sums_reached g a.s a.firsts.now a.seconds.now numbers c.loop-number.sizes.entries sums (λ i l. reached i (let past = c.loop-number-test.false in omega arith)))

pub reach_if-requires-clause-all : goal.reach_if-requires-clause-all
reach_if-requires-clause-all c = c.loop-number.invariant.0.as_long ∙ c.requires.all
