use Rattle.pat_checkpoint_laws.proofs.Exact.{text_is_read, text_is_one, unread_is_first}
use Rattle.pat_checkpoint_laws.proofs.text.text_is_read_law.Goals as goal

pub returns-clause-read : goal.returns-clause-read
returns-clause-read c = text_is_read

pub returns-clause-one : goal.returns-clause-one
returns-clause-one c = text_is_one

pub returns-clause-first : goal.returns-clause-first
returns-clause-first c = unread_is_first
