use Rattle.pat_history_laws.proofs.Ways.{read_or_unread, reading_is_one, unread_is_one, unread_is_not_read}
use Rattle.pat_history_laws.proofs.reading_is_one_law.Goals as goal

pub returns-clause-either : goal.returns-clause-either
returns-clause-either c = read_or_unread

pub returns-clause-history : goal.returns-clause-history
returns-clause-history c = reading_is_one

pub returns-clause-place : goal.returns-clause-place
returns-clause-place c = unread_is_one

pub returns-clause-other : goal.returns-clause-other
returns-clause-other c = unread_is_not_read
