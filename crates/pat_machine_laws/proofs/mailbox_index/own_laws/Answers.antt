use Rattle.pat_machine_laws.proofs.MailboxIndexLookUps.{own_are_pending, first_pending_is_own, first_is_own, first_by_number as first_by_number_is_own}
use Rattle.pat_machine_laws.proofs.mailbox_index.own_laws.Goals as goal

pub returns : goal.returns
returns c = record { own = own_are_pending; first_pending = first_pending_is_own; first = first_is_own; first_by_number = first_by_number_is_own }
