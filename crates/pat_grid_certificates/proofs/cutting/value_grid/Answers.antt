use Rattle.std.proofs.Common.{ap, sym, subst}
use Rattle.pat_patterns.specs.Views.{pattern_view}
use Rattle.pat_grid_certificates.specs.Views.{value_view}
use Rattle.pat_grid_certificates.specs.Cutting.{IsValueGrid}
use Rattle.pat_grid_certificates.proofs.Meaning.{pattern_grid}
use Rattle.pat_grid_certificates.proofs.cutting.value_grid.Goals as goal

pub returns-in_ok-grid-in-Pattern : goal.returns-in_ok-grid-in-Pattern
returns-in_ok-grid-in-Pattern c =
    subst (λ v. IsValueGrid c.args.k c.args.tags v c.in_ok-grid-in-Pattern.grid) (ap value_view (sym c.in-Pattern.is))
    (pattern_grid c.args.k c.args.tags (pattern_view c.in-Pattern.p) c.in_ok-grid-in-Pattern.grid c.in_ok-grid-in-Pattern.ensures.like c.in_ok-grid-in-Pattern.ensures.points)
