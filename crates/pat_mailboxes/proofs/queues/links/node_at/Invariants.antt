use Rattle.std.proofs.Common.{◌≡◌, slice_index}
use Rattle.pat_mailboxes.specs.queues.Nodes.{path}
use Rattle.pat_mailboxes.proofs.queues.links.node_at.Given as goal

abbrev pub invariant-loop : goal.invariant-loop
invariant-loop l = l.node ≡ slice_index (path l.links l.len l.first) l.counter
