use Rattle.pat_derivations.specs.Views.{derivation_view}
use Rattle.pat_checkpoint_laws.proofs.ValidParts.{values_do_fit}
use Rattle.pat_checkpoint_parts.specs.Typed.{program_in}
use Rattle.pat_checkpoint_parts.proofs.showing.fits_by.Goals as goal

pub included-requires-clause-values : goal.included-requires-clause-values
included-requires-clause-values c =
    let t = c.args.typing.now in
    values_do_fit (program_in t) (derivation_view t.derivation.now) c.requires.can.well c.requires.can.valid

pub included-requires-in-Receiving-clause-values : goal.included-requires-in-Receiving-clause-values
included-requires-in-Receiving-clause-values c =
    let t = c.args.typing.now in
    values_do_fit (program_in t) (derivation_view t.derivation.now) c.requires.can.well c.requires.can.valid
