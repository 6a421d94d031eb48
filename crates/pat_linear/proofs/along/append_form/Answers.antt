use Rattle.std.proofs.Common.{subst, sym}
use Rattle.pat_patterns.specs.Views.{pattern_view}
use Rattle.pat_linear.specs.Views.{set_view, sets_view}
use Rattle.pat_linear.specs.Rooms.{HasRoom}
use Rattle.pat_linear.proofs.Walked.{factor_fits}
use Rattle.pat_linear.proofs.along.append_form.Goals as goal

pub push_row-requires : goal.push_row-requires
push_row-requires c =
    let fits = factor_fits (pattern_view c.args.p.now) (set_view c.args.factor.now) (sets_view c.in_ok-sets.sets) c.requires.small c.requires.factor c.in_ok-sets.ensures in
    subst (λ sets. HasRoom (set_view c.args.factor.now) (sets_view sets)) (sym c.as_slice.ensures) fits
