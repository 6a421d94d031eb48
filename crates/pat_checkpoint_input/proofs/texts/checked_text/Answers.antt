use Rattle.pat_core.specs.Views.{program_view}
use Rattle.pat_derivations.specs.Views.{derivation_view}
use Rattle.pat_checkpoint_input.proofs.Giving.{judged_well, judged_bad}
use Rattle.pat_checkpoint_input.proofs.texts.checked_text.Goals as goal

pub returns-in-Ok-judged : goal.returns-in-Ok-judged
returns-in-Ok-judged c =
    judged_well (program_view c.args.program.now) (derivation_view c.args.derivation.now) c.args.at c.args.text.now c.in-Ok.checkpoint c.in-Ok.ensures c.in-Ok-judged.ensures

pub returns-in-Err : goal.returns-in-Err
returns-in-Err c =
    judged_bad (program_view c.args.program.now) (derivation_view c.args.derivation.now) c.args.at c.args.text.now c.in-Ok.checkpoint c.in-Ok.ensures c.in-Err.error c.in-Err.ensures
