use Rattle.std.proofs.Common.{◌≡◌, ◌-◌, ◌≤◌, length}
use Rattle.pat_mailboxes.specs.queues.Lanes.{merged, lanes_from}
use Rattle.pat_mailboxes.specs.queues.Pooled.{contents}
use Rattle.pat_mailboxes.proofs.queues.lanes.count_in.Given as goal

abbrev pub decreases-loop-lane : goal.decreases-loop-lane
decreases-loop-lane l = l.lane

-- the messages of the lanes from this one on
abbrev pub invariant-loop-lane : goal.invariant-loop-lane
invariant-loop-lane l = (l.lane ≤ 8) × (l.count ≡ length (merged (lanes_from (contents l.region) l.queue l.lane (8 - l.lane))))
