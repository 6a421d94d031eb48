use Rattle.pat_command_replay.proofs.Giving.{whole_given, piece_given, piece_refused}
use Rattle.pat_command_replay.proofs.pieces.replay_input.Goals as goal

pub returns-in-None-clause-gives : goal.returns-in-None-clause-gives
returns-in-None-clause-gives c = whole_given c.args.bytes.now c.replay_bytes.result c.in-None.ensures.none c.replay_bytes.ensures.gives

pub returns-in-Ok-clause-gives : goal.returns-in-Ok-clause-gives
returns-in-Ok-clause-gives c = piece_given c.args.bytes.now c.in-Ok.piece c.checked_laws.ensures.safe c.in-Ok.ensures.gives

pub returns-in-Err-clause-gives : goal.returns-in-Err-clause-gives
returns-in-Err-clause-gives c = piece_refused c.args.bytes.now c.in-Err.error c.in-Err.ensures.gives
