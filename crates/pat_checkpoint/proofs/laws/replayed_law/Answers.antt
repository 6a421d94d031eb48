use Rattle.pat_checkpoint.proofs.Behind.{replayed_there, replayed_spelled}
use Rattle.pat_checkpoint.proofs.laws.replayed_law.Goals as goal

pub returns-clause-there : goal.returns-clause-there
returns-clause-there c = replayed_there c.made_laws.ensures.interfaces c.made_laws.ensures.counts c.resumed_laws.ensures.typed c.read_is_text_law.ensures.front

pub returns-clause-strings : goal.returns-clause-strings
returns-clause-strings c = replayed_spelled c.strings_law.ensures c.read_is_text_law.ensures.front
