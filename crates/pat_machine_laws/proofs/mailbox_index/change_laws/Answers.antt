use Rattle.pat_machine_laws.proofs.MailboxIndexChanges.{start_is_kept, makes_last, sends_last, last_is_sent, takes_one, frees_one, same_stays}
use Rattle.pat_machine_laws.proofs.mailbox_index.change_laws.Goals as goal

pub returns : goal.returns
returns c = record { start = start_is_kept; made = makes_last; sent = sends_last; last = last_is_sent; taken = takes_one; freed = frees_one; stays = same_stays }
