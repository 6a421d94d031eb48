use Rattle.std.proofs.Common.{ap, ◌∙◌}
use Rattle.pat_checkpoint_laws.proofs.ValidParts.{values_do_fit}
use Rattle.pat_patterns.specs.Views.{patterns_view}
use Rattle.pat_core.specs.Views.{program_view}
use Rattle.pat_derivations.specs.Views.{derivation_view}
use Rattle.pat_checkpoint_certificates.specs.Bounds.{listed_at}
use Rattle.pat_checkpoint_certificates.proofs.certifying.certify.Goals as goal

pub grid_bounds-requires-clause-typable : goal.grid_bounds-requires-clause-typable
grid_bounds-requires-clause-typable c =
    c.validity_laws.ensures.typable (program_view c.args.program.now) (derivation_view c.args.derivation.now) c.requires.well c.requires.valid

pub certify_with-requires-clause-search : goal.certify_with-requires-clause-search
certify_with-requires-clause-search c =
    record {
      well = c.requires.well;
      values = values_do_fit (program_view c.args.program.now) (derivation_view c.args.derivation.now) c.requires.well c.requires.valid;
      plain = ap patterns_view c.as_slice.ensures ∙ c.in_ok-plain.ensures;
      bounds = λ i. ap (λ l. listed_at l i) c.as_slice-2.ensures ∙ c.in_ok-bounds.ensures i;
      lets = λ b. ap (λ l. listed_at l b) c.as_slice-3.ensures ∙ c.in_ok-lets.ensures b;
    }
