use Rattle.pat_history_spec.specs.HistoryText.{marker}
use Rattle.pat_checkpoint_input.proofs.OnePieces.{one_history}
use Rattle.pat_checkpoint_input.proofs.laws.piece_law.Goals as goal

pub returns : goal.returns
returns c = λ bytes. one_history c.text_law.ensures c.checkpoint_input_law.ensures bytes (c.split_law.ensures marker bytes)
