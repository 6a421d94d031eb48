use Rattle.pat_history_laws.proofs.Lines.{text_is_read}
use Rattle.pat_history_laws.proofs.Ways.{unread_is_first}
use Rattle.pat_history_laws.proofs.text_is_read_law.Goals as goal

pub returns-clause-read : goal.returns-clause-read
returns-clause-read c = text_is_read

pub returns-clause-first : goal.returns-clause-first
returns-clause-first c = unread_is_first
