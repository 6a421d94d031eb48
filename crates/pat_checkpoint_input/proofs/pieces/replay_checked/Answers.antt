use Rattle.std.proofs.Common.{Ok as Done, Err as Failed, refl, sym, subst}
use Rattle.pat_semantics_spec.specs.WellFormed.{WellFormed}
use Rattle.pat_core.specs.declared.program.Program.{Program}
use Rattle.pat_core.specs.Views.{program_view}
use Rattle.pat_derivations.specs.Views.{derivation_view}
use Rattle.pat_checkpoint_data.specs.Views.{checkpoint_view}
use Rattle.pat_checkpoint_spec.specs.Checked.{IsChecked}
use Rattle.pat_checkpoint_input.specs.Gives.{LedGives}
use Rattle.pat_checkpoint_input.proofs.Leading.{program_given, program_refused}
use Rattle.pat_checkpoint_input.proofs.pieces.replay_checked.Goals as goal

pub replay_on-requires-clause-well_formed : goal.replay_on-requires-clause-well_formed
replay_on-requires-clause-well_formed c = subst (λ (k : Program). WellFormed (program_view k)) (sym c.in-Ok.ensures) c.requires.well_formed

pub replay_on-requires-clause-checked : goal.replay_on-requires-clause-checked
replay_on-requires-clause-checked c =
    let d = derivation_view c.args.checked.derivation in
    (d, subst (λ (k : Program). IsChecked (program_view k) d (checkpoint_view c.args.checked.checkpoint)) (sym c.in-Ok.ensures) c.requires.checked)

pub returns-in-Ok-replay_on-clause-gives : goal.returns-in-Ok-replay_on-clause-gives
returns-in-Ok-replay_on-clause-gives c =
    let x = checkpoint_view c.args.checked.checkpoint in
    program_given (program_view c.args.checked.program) x c.args.from c.args.text.now (derivation_view c.args.checked.derivation) _ c.in-Ok-replay_on.led refl refl refl
    (subst (λ (k : Program). LedGives (program_view k) x c.args.from c.args.text.now (Done c.in-Ok-replay_on.led)) c.in-Ok.ensures c.in-Ok-replay_on.ensures.gives)

pub returns-in-Err-replay_on-clause-gives : goal.returns-in-Err-replay_on-clause-gives
returns-in-Err-replay_on-clause-gives c =
    let x = checkpoint_view c.args.checked.checkpoint in
    program_refused (program_view c.args.checked.program) x c.args.from c.args.text.now (derivation_view c.args.checked.derivation) c.in-Err-replay_on.error
    (subst (λ (k : Program). LedGives (program_view k) x c.args.from c.args.text.now (Failed c.in-Err-replay_on.error)) c.in-Ok.ensures c.in-Err-replay_on.ensures.gives)
