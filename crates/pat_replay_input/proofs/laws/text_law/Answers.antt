use Rattle.std.proofs.Common.{codes}
use Rattle.pat_replay_input.proofs.Once.{one_text}
use Rattle.pat_replay_input.proofs.laws.text_law.Goals as goal

pub returns : goal.returns
returns c = λ p b text.
    one_text c.refusal_laws.ensures.refused c.refusal_laws.ensures.one c.reading_is_one_law.ensures.history c.reading_is_one_law.ensures.place c.reading_is_one_law.ensures.other p b text (c.split_law.ensures (codes "%%output") text)
