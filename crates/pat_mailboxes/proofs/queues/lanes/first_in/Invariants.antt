use Rattle.std.proofs.Common.{◌≡◌, ◌-◌, ◌≤◌}
use Rattle.std.specs.Prelude.{find, option_copied}
use Rattle.pat_mailboxes.specs.queues.Lanes.{merged, lanes_from}
use Rattle.pat_mailboxes.specs.queues.Pooled.{contents}
use Rattle.pat_mailboxes.proofs.queues.lanes.first_in.Given as goal

abbrev pub decreases-loop-lane : goal.decreases-loop-lane
decreases-loop-lane g l = l.lane

-- the first message of the lanes from this one on
abbrev pub invariant-loop-lane : goal.invariant-loop-lane
invariant-loop-lane g l =
    (l.lane ≤ 8)
    × (option_copied l.first ≡ find (g.P.Test.passes l.test) (merged (lanes_from (contents l.region) l.queue l.lane (8 - l.lane))))
