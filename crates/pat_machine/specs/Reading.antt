-- What may be read of a machine's mailboxes.
use Rattle.std.specs.Prelude.{◌≡◌, ℕ}
use Rattle.pat_machine_steps.specs.shared_steps.Boxes.{AreMailboxesOf}
use Rattle.pat_machine_steps.specs.wakeups.Naming.{times_in}
use Rattle.pat_machine_steps.specs.wakeups.Counting.{count_at}
use Rattle.pat_machine.specs.declared.mailboxes.MailboxesOf.{MailboxesOf}
use Rattle.pat_machine.specs.Shown.{Shown, places_for}

-- just the configuration's live mailboxes are there, each with its messages that are pending there; and each is counted as often as the
-- threads and messages of the configuration name it. From the start on there are as many places for messages as may ever be pending
pub record ShowsMailboxes (m : Shown) (r : MailboxesOf) : Type 0 where
  pub mailboxes : AreMailboxesOf m.config r.messages.now.mailboxes
  pub places : r.messages.now.room ≡ places_for m.named.budget m.named.limit
  pub named : (b : ℕ) → count_at r.names.now.times.items b ≡ times_in b m.config
