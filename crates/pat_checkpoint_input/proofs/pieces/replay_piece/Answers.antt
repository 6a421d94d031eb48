use Rattle.std.proofs.Common.{subst}
use Rattle.std.proofs.lemmas.List.{take_rest}
use Rattle.pat_core.specs.Views.{program_view}
use Rattle.pat_derivations.specs.Views.{derivation_view}
use Rattle.pat_checkpoint_data.specs.Views.{checkpoint_view}
use Rattle.pat_checkpoint_input.specs.Gives.{ProgramGives}
use Rattle.pat_checkpoint_input.proofs.Leading.{piece_given, piece_refused}
use Rattle.pat_checkpoint_input.proofs.pieces.replay_piece.Goals as goal

pub replay_checked-requires-clause-checked : goal.replay_checked-requires-clause-checked
replay_checked-requires-clause-checked c = let parts = c.in-Ok.ensures.gives in parts.checked.checked

pub replay_checked-requires-clause-room : goal.replay_checked-requires-clause-room
replay_checked-requires-clause-room c = let parts = c.in-Ok.ensures.gives in parts.checked.room

pub returns-in-Ok-clause-gives : goal.returns-in-Ok-clause-gives
returns-in-Ok-clause-gives c =
    let p = program_view c.in-Ok.checked.program in
    let d = derivation_view c.in-Ok.checked.derivation in
    let x = checkpoint_view c.in-Ok.checked.checkpoint in
    let own = subst (λ l. ProgramGives p d x c.args.at l c.replay_checked.result) (take_rest c.args.bytes.now c.args.at) c.replay_checked.ensures.gives in
    piece_given c.args.bytes.now c.args.at c.requires.piece p d x c.in-Ok.ensures.gives c.replay_checked.result c.requires.within own

pub returns-in-Err-clause-gives : goal.returns-in-Err-clause-gives
returns-in-Err-clause-gives c = piece_refused c.args.bytes.now c.args.at c.requires.piece c.in-Err.error c.in-Err.ensures.gives
