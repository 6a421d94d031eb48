use Rattle.std.proofs.Common.{refl, ap, sym, ◌∙◌, get_or, set, arith}
use Rattle.std.proofs.lemmas.Bool.{ltb-false}
use Rattle.pat_grid.proofs.Relaxing.{lowered, not_lowered}
use Rattle.pat_grid.proofs.tables.entries.lower.Goals as goal

pub returns-then-size-old : goal.returns-then-size-old
returns-then-size-old c =
    let entries = c.args.sizes.now.entries in
    let e = ap (λ p. get_or entries p 0) (sym c.place_of-place.ensures.value) ∙ c.get-old.ensures 0 in
    not_lowered c.args.board.now c.args.sizes.now c.args.changed.now c.args.s c.args.number c.args.size c.requires.board c.requires.all c.requires.place
    (let l = c.if-size-old.true in omega arith)

pub returns : goal.returns
returns c =
    let entries = c.args.sizes.now.entries in
    let e = ap (λ p. get_or entries p 0) (sym c.place_of-place.ensures.value) ∙ c.get-old.ensures 0 in
    lowered c.args.board.now c.args.sizes.now _ c.args.changed.now _ c.args.s c.args.number c.args.number c.args.size refl c.requires.board c.requires.all c.requires.place c.requires.step
    (let l = c.if-size-old.false in omega arith)
    (λ no. let l = ltb-false _ _ no in omega arith)
    (c.in_ok-set.ensures.ok ∙ ap (λ p. set entries p c.args.size) c.place_of-place.ensures.value) c.in_ok-note_if.ensures c.in_ok-push.ensures.ok
