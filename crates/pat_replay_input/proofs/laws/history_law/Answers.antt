use Rattle.pat_history_spec.specs.HistoryText.{marker}
use Rattle.pat_replay_input.proofs.Once.{one_replay}
use Rattle.pat_replay_input.proofs.laws.history_law.Goals as goal

pub returns : goal.returns
returns c = λ bytes. one_replay c.text_law.ensures bytes (c.program_law.ensures marker bytes)
