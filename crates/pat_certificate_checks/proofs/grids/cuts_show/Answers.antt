use Rattle.std.proofs.Common.{ap, ◌∙◌}
use Rattle.pat_derivation_spec.specs.Derivations.{scope_of}
use Rattle.pat_patterns.specs.Views.{pattern_view}
use Rattle.pat_core.specs.Views.{program_view}
use Rattle.pat_derivations.specs.Views.{vars_view, derivation_view}
use Rattle.pat_grid_certificates.specs.Views.{values_view, right_view}
use Rattle.pat_certificate_checks.specs.Numbering.{values_of}
use Rattle.pat_certificate_checks.proofs.CutsShown.{left_below, right_below, values_below, grid_decided}
use Rattle.pat_certificate_checks.proofs.grids.cuts_show.Goals as goal

pub check_grid-requires-clause-left : goal.check_grid-requires-clause-left
check_grid-requires-clause-left c =
    left_below (scope_of (program_view c.args.program.now) (derivation_view c.args.derivation.now)) c.args.interface c.args.tags (pattern_view c.args.left.now) (pattern_view c.args.right.now) c.requires.tags c.requires.values c.requires.left c.requires.right c.as_slice-all.result.now (c.as_slice-all.ensures ∙ c.in_ok-names.ensures) (pattern_view c.in_ok-numbered.numbered) c.in_ok-numbered.ensures

pub check_grid-requires-clause-right : goal.check_grid-requires-clause-right
check_grid-requires-clause-right c =
    right_below (scope_of (program_view c.args.program.now) (derivation_view c.args.derivation.now)) c.args.interface c.args.tags (pattern_view c.args.left.now) (pattern_view c.args.right.now) c.requires.tags c.requires.values c.requires.left c.requires.right c.as_slice-all.result.now (c.as_slice-all.ensures ∙ c.in_ok-names.ensures) (right_view c.in_ok-other.other) c.in_ok-other.ensures

pub check_grid-requires-clause-values : goal.check_grid-requires-clause-values
check_grid-requires-clause-values c =
    values_below (scope_of (program_view c.args.program.now) (derivation_view c.args.derivation.now)) c.args.interface c.args.tags (pattern_view c.args.left.now) (pattern_view c.args.right.now) c.requires.tags c.requires.values c.requires.left c.requires.right c.as_slice-all.result.now (c.as_slice-all.ensures ∙ c.in_ok-names.ensures) (values_view c.as_slice-held.result.now)
    (ap values_view c.as_slice-held.ensures ∙ c.in_ok-values.ensures ∙ ap (λ vars. values_of (vars_view vars) c.as_slice-all.result.now) c.as_slice.ensures)

pub returns : goal.returns
returns c =
    grid_decided (scope_of (program_view c.args.program.now) (derivation_view c.args.derivation.now)) c.args.interface c.args.tags (pattern_view c.args.left.now) (pattern_view c.args.right.now) c.requires.tags c.requires.values c.requires.left c.requires.right c.as_slice-all.result.now (c.as_slice-all.ensures ∙ c.in_ok-names.ensures) c.args.k (pattern_view c.in_ok-numbered.numbered) (right_view c.in_ok-other.other) (values_view c.as_slice-held.result.now) c.in_ok-numbered.ensures c.in_ok-other.ensures
    (ap values_view c.as_slice-held.ensures ∙ c.in_ok-values.ensures ∙ ap (λ vars. values_of (vars_view vars) c.as_slice-all.result.now) c.as_slice.ensures)
    c.in_ok-shown.shown c.requires.fits c.in_ok-shown.ensures.shown
