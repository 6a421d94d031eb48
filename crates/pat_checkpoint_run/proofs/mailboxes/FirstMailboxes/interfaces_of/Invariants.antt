use Rattle.std.proofs.Common.{◌≡◌, map, take}
use Rattle.pat_checkpoint_spec.specs.Checkpoints.{interface_at}
use Rattle.pat_checkpoint_spec.specs.Resumed.{interface_made}
use Rattle.pat_checkpoint_run.proofs.mailboxes.FirstMailboxes.interfaces_of.Given as goal

-- those of the mailboxes before this place
abbrev pub invariant-loop-mailbox : goal.invariant-loop-mailbox
invariant-loop-mailbox l = l.interfaces ≡ map (interface_made (interface_at l.self.live l.self.interfaces) l.self.next l.made) (take l.mailbox-index l.mailboxes)
