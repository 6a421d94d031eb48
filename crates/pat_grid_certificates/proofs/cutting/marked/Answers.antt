use Rattle.std.proofs.Common.{[], ◌+◌, take, sym, subst}
use Rattle.pat_grid_certificates.proofs.Marking.{Marked, marked_turn, number_room}
use Rattle.pat_grid_certificates.proofs.cutting.marked.Goals as goal

pub set-requires : goal.set-requires
set-requires c =
    number_room c.args.k c.args.tags c.number_of-number.result _ c.loop-word.held (take c.loop-word.word-index c.args.words.now) c.loop-word.invariant c.number_of-number.ensures

pub loop-word-preserved : goal.loop-word-preserved
loop-word-preserved c =
    subst (λ held. Marked c.args.k c.args.tags held (take (c.loop-word.word-index + 1) c.args.words.now)) (sym c.in_ok-set.ensures.ok)
    (marked_turn c.args.k c.args.tags c.number_of-number.result c.loop-word.word-index c.loop-word.held c.args.words.now (record { counts = [] }) c.loop-word.invariant c.requires.tags c.loop-word-test.true c.number_of-number.ensures)
