use Rattle.std.proofs.Common.{refl}
use Rattle.pat_core.specs.Views.{program_view}
use Rattle.pat_checkpoint_input.proofs.Giving.{parts_checked, parts_refused}
use Rattle.pat_checkpoint_input.proofs.inputs.checked_parts.Goals as goal

pub returns-in-Ok-clause-gives : goal.returns-in-Ok-clause-gives
returns-in-Ok-clause-gives c =
    parts_checked (program_view c.args.program) c.args.from c.args.derivation.now c.args.checkpoint.now _ (c.in-Ok.derivation, c.in-Ok.checkpoint) refl refl refl c.in-Ok.ensures

pub returns-in-Err-clause-gives : goal.returns-in-Err-clause-gives
returns-in-Err-clause-gives c = parts_refused (program_view c.args.program) c.args.from c.args.derivation.now c.args.checkpoint.now c.in-Err.error c.in-Err.ensures
