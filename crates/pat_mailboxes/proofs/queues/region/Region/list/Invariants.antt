use Rattle.std.proofs.Common.{◌≡◌, ◌<◌, map, get_or, take, slice_index, []}
use Rattle.pat_mailboxes.specs.queues.Chained.{queue_nodes, nodes_in}
use Rattle.pat_mailboxes.specs.queues.Pooled.{contents}
use Rattle.pat_mailboxes.proofs.queues.region.Region.list.Given as goal

-- the next node, and the values so far
abbrev pub invariant-loop : goal.invariant-loop
invariant-loop g l =
    (l.counter < l.end → l.node ≡ slice_index (nodes_in (queue_nodes l.self.chains) l.queue) l.counter)
    × (map (λ v. v.now) l.values.items ≡ take l.counter (get_or (contents l.self) l.queue []))
