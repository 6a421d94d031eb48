use Rattle.std.proofs.Common.{◌+◌, sym, subst}
use Rattle.pat_grid_sums.specs.Sets.{Lists}
use Rattle.pat_grid_sums.proofs.Putting.{list_added}
use Rattle.pat_grid_sums.proofs.bits.list_if.Goals as goal

pub returns-in_ok-push : goal.returns-in_ok-push
returns-in_ok-push c = λ h.
    subst (Lists c.args.words.now c.args.width (c.args.number + 1)) (sym c.in_ok-push.ensures.ok)
    (list_added c.args.words.now c.args.width c.args.number c.args.numbers.now (c.has.ensures.0 c.if-has.true) h)
