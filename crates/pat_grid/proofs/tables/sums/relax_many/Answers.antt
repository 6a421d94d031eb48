use Rattle.std.proofs.Common.{◌<◌, get_or, inr, sym, subst}
use Rattle.pat_inclusion_spec.specs.bounds.Tables.{IsKnown}
use Rattle.pat_grid.specs.tables.Views.{setting_of}
use Rattle.pat_grid.proofs.Summing.{many_moved}
use Rattle.pat_grid.proofs.Waiting.{on_ok}
use Rattle.pat_grid.proofs.tables.sums.relax_many.Goals as goal

pub returns : goal.returns
returns c =
    let a = c.args in
    let points = c.requires.board.points in
    on_ok _ _ _
    (λ m. many_moved (setting_of a.board.now) a.s a.parts.0 a.parts.1 a.firsts.now a.seconds.now a.sizes.now c.relax_within.new.sizes c.reach_sums.new.sizes a.changed.now c.relax_within.new.changed c.reach_sums.new.changed
    (λ i l. subst (λ n. get_or a.firsts.now i 0 < n) points (c.requires.firsts i l).0)
    (λ j l. subst (λ n. get_or a.seconds.now j 0 < n) points (c.requires.seconds j l))
    c.requires.apart c.in_ok-relax_within.ensures m)
    c.reach_sums.ensures

pub reach_sums-requires-clause-within : goal.reach_sums-requires-clause-within
reach_sums-requires-clause-within c = c.in_ok-relax_within.ensures.claim (inr c.requires.apart)

pub reach_sums-requires-clause-known : goal.reach_sums-requires-clause-known
reach_sums-requires-clause-known c =
    let a = c.args in
    let points = c.requires.board.points in
    let lowers = c.in_ok-relax_within.ensures.lowers in (
      λ i l. subst (IsKnown a.board.now.limit) (sym (lowers.elsewhere a.parts.0 (get_or a.firsts.now i 0) c.requires.apart.0 (subst (λ n. get_or a.firsts.now i 0 < n) points (c.requires.firsts i l).0))) (c.requires.known.0 i l),
      λ j l. subst (IsKnown a.board.now.limit) (sym (lowers.elsewhere a.parts.1 (get_or a.seconds.now j 0) c.requires.apart.1 (subst (λ n. get_or a.seconds.now j 0 < n) points (c.requires.seconds j l)))) (c.requires.known.1 j l),
    )
