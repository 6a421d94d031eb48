use Rattle.std.proofs.Common.{inl, refl, rules}
use Rattle.pat_core.specs.Views.{program_view}
use Rattle.pat_derivations.specs.Views.{derivation_view}
use Rattle.pat_checkpoint_input.proofs.Giving.{texts_read, texts_refused}
use Rattle.pat_checkpoint_input.proofs.texts.checked_texts.Goals as goal

pub returns-in-Ok-checked_text : goal.returns-in-Ok-checked_text
returns-in-Ok-checked_text c =
    texts_read (program_view c.args.program.now) c.args.from c.args.derivation.now c.args.checkpoint.now (derivation_view c.in-Ok.shown) c.in-Ok.ensures c.in-Ok.shown c.in-Ok-checked_text.checkpoint refl c.in-Ok-checked_text.ensures

pub returns-in-Err : goal.returns-in-Err
returns-in-Err c =
    texts_refused (program_view c.args.program.now) c.args.from c.args.derivation.now c.args.checkpoint.now (derivation_view c.in-Ok.shown) c.in-Ok.ensures c.in-Err.error c.in-Err.ensures

pub returns-in-Err-BadText : goal.returns-in-Err-BadText
returns-in-Err-BadText c = inl (search rules)
