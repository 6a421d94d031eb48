use Rattle.std.proofs.Common.{rules}
use Rattle.pat_core.specs.Views.{program_view}
use Rattle.pat_derivation_spec.specs.Validity.{IsValid}
use Rattle.pat_derivations.specs.Views.{derivation_view}
use Rattle.pat_checkpoint_data.specs.Views.{checkpoint_view}
use Rattle.pat_checkpoint_input.proofs.Giving.{judged_valid}
use Rattle.pat_checkpoint_input.proofs.texts.judged.Goals as goal

pub returns-in-Ok-None : goal.returns-in-Ok-None
returns-in-Ok-None c =
    let valid : IsValid (program_view c.args.program.now) (derivation_view c.args.derivation.now) = search rules in
    judged_valid (program_view c.args.program.now) (derivation_view c.args.derivation.now) (checkpoint_view c.args.checkpoint.now) c.examined.result valid c.examined.ensures
