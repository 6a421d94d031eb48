use Rattle.pat_checkpoint_laws.proofs.Exact.{is_read_or_unread, reading_is_one, unread_is_not_a_checkpoint}
use Rattle.pat_checkpoint_laws.proofs.Ways.{unread_is_one}
use Rattle.pat_checkpoint_laws.proofs.text.reading_is_one_law.Goals as goal

pub returns-clause-either : goal.returns-clause-either
returns-clause-either c = is_read_or_unread

pub returns-clause-checkpoint : goal.returns-clause-checkpoint
returns-clause-checkpoint c = reading_is_one

pub returns-clause-place : goal.returns-clause-place
returns-clause-place c = unread_is_one

pub returns-clause-other : goal.returns-clause-other
returns-clause-other c = unread_is_not_a_checkpoint
