use Rattle.std.proofs.Common.{◌≡◌, ◌<◌, get_or, take, slice_index, []}
use Rattle.pat_mailboxes.specs.queues.Chained.{queue_nodes, nodes_in}
use Rattle.pat_mailboxes.specs.queues.Queues.{NonePasses}
use Rattle.pat_mailboxes.specs.queues.Pooled.{contents}
use Rattle.pat_mailboxes.proofs.queues.lanes.find_in.Given as goal

abbrev pub invariant-loop-place : goal.invariant-loop-place
invariant-loop-place g l =
    (l.place < l.place-end → l.node ≡ slice_index (nodes_in (queue_nodes l.region.chains) l.chain) l.place)
    × NonePasses (g.P.Test.passes l.test) (take l.place (get_or (contents l.region) l.chain []))
