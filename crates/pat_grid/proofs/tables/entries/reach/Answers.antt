use Rattle.std.proofs.Common.{◌+◌, ap, ◌∙◌, refl, set, true}
use Rattle.pat_grid.proofs.Relaxing.{lowered}
use Rattle.pat_grid.proofs.Summing.{reach_less, reach_keeps}
use Rattle.pat_grid.proofs.tables.entries.reach.Goals as goal

pub returns-clause-moved : goal.returns-clause-moved
returns-clause-moved c =
    let a = c.args in
    let b = a.board.now in
    let less = reach_less b a.sizes.now.entries a.s a.number c.requires.board c.requires.all c.requires.place c.requires.none in
    lowered b a.sizes.now _ a.changed.now true a.s a.number a.number (b.limit + 1) refl c.requires.board c.requires.all c.requires.place c.requires.step less
    (λ no. absurd (cc))
    (c.in_ok-set.ensures.ok ∙ ap (λ p. set a.sizes.now.entries p (b.limit + 1)) c.place_of-place.ensures.value) c.in_ok-note.ensures c.in_ok-push.ensures.ok

pub returns-clause-kept : goal.returns-clause-kept
returns-clause-kept c =
    let a = c.args in
    let b = a.board.now in
    reach_keeps b a.sizes.now.entries _ a.s a.number (b.limit + 1) c.requires.board c.requires.place c.requires.none
    (c.in_ok-set.ensures.ok ∙ ap (λ p. set a.sizes.now.entries p (b.limit + 1)) c.place_of-place.ensures.value)
