use Rattle.std.proofs.Common.{◌≡◌, ◌-◌, ◌≤◌}
use Rattle.std.specs.Prelude.{option_copied}
use Rattle.pat_mailboxes.specs.queues.Lanes.{merged, lanes_from, last_of}
use Rattle.pat_mailboxes.specs.queues.Pooled.{contents}
use Rattle.pat_mailboxes.proofs.queues.lanes.last_in.Given as goal

abbrev pub decreases-loop-lane : goal.decreases-loop-lane
decreases-loop-lane l = l.lane

-- the last message of the lanes from this one on
abbrev pub invariant-loop-lane : goal.invariant-loop-lane
invariant-loop-lane l = (l.lane ≤ 8) × (option_copied l.last ≡ last_of (merged (lanes_from (contents l.region) l.queue l.lane (8 - l.lane))))
