use Rattle.std.proofs.Common.{inl, sym, subst}
use Rattle.pat_grid.specs.tables.Views.{setting_of}
use Rattle.pat_grid.specs.tables.Moves.{AreKnown}
use Rattle.pat_grid.proofs.Summing.{round_moved, round_lowered}
use Rattle.pat_grid.proofs.Waiting.{on_ok}
use Rattle.pat_grid.proofs.tables.sums.relax_again.Goals as goal

pub returns-then-lowered : goal.returns-then-lowered
returns-then-lowered c =
    let a = c.args in
    round_lowered (setting_of a.board.now) a.s a.part a.s a.firsts.now a.seconds.now a.sizes.now c.relax_within.new.sizes a.changed.now c.relax_within.new.changed c.if-lowered.true c.in_ok-relax_within.ensures

pub returns : goal.returns
returns c =
    let a = c.args in
    on_ok _ _ _
    (λ m. round_moved (setting_of a.board.now) a.s a.part a.s a.firsts.now a.seconds.now a.sizes.now c.relax_within.new.sizes c.reach_sums.new.sizes a.changed.now c.relax_within.new.changed c.reach_sums.new.changed c.if-lowered.false c.in_ok-relax_within.ensures m)
    c.reach_sums.ensures

pub reach_sums-requires-clause-within : goal.reach_sums-requires-clause-within
reach_sums-requires-clause-within c = c.in_ok-relax_within.ensures.claim (inl c.if-lowered.false)

pub reach_sums-requires-clause-known : goal.reach_sums-requires-clause-known
reach_sums-requires-clause-known c =
    let a = c.args in
    let g = setting_of a.board.now in
    subst (λ es. AreKnown g a.part a.firsts.now es × AreKnown g a.s a.seconds.now es) (sym (c.in_ok-relax_within.ensures.stays c.if-lowered.false).1) c.requires.known
