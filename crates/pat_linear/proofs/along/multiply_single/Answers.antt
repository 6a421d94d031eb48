use Rattle.std.proofs.Common.{◌≡◌, ◌<◌, length, get_or, subst, arith}
use Rattle.pat_patterns.specs.Views.{pattern_view}
use Rattle.pat_linear.specs.Views.{set_view, sets_view}
use Rattle.pat_linear.proofs.Room.{room_at}
use Rattle.pat_linear.proofs.Walked.{factor_fits}
use Rattle.pat_linear.proofs.along.multiply_single.Goals as goal

pub multiply_by-requires : goal.multiply_by-requires
multiply_by-requires c =
    let sets = c.in_ok-sets.sets in
    let one = c.index-as_slice-0.result in
    let fits = factor_fits (pattern_view c.args.p.now) (set_view c.args.factor.now) (sets_view sets) c.requires.small c.requires.factor c.in_ok-sets.ensures in
    let count = c.len.ensures in
    let few = c.if-len-ne1.false in
    let some : 0 < length sets = omega arith in
    room_at (set_view c.args.factor.now) sets 0 one fits some (subst (λ l. one ≡ get_or l 0 one) c.as_slice.ensures c.index-as_slice-0.is)
