use Rattle.pat_history_spec.specs.HistoryText.{marker}
use Rattle.pat_command_replay.proofs.Once.{one_answer}
use Rattle.pat_command_replay.proofs.laws.replay_law.Goals as goal

pub returns : goal.returns
returns c = λ bytes. one_answer bytes (c.split_law.ensures marker bytes) (c.piece_law.ensures bytes) (c.history_law.ensures bytes)
