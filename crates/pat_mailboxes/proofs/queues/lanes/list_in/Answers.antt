use Rattle.std.proofs.Common.{rules}
use Rattle.std.specs.Borrow.{Bor}
use Rattle.std.proofs.lemmas.List.Sorted.{IsPermutation-map, IsPermutation-trans, IsNonDecreasingBy-from_sort_by_key}
use Rattle.pat_reduce.specs.declared.threads.state.Message.{Message}
use Rattle.pat_mailboxes.specs.queues.Lanes.{queue_in}
use Rattle.pat_mailboxes.specs.queues.Pooled.{contents}
use Rattle.pat_mailboxes.proofs.Sorted.{rise_sorted}
use Rattle.pat_mailboxes.proofs.queues.lanes.list_in.Goals as goal

pub returns-clause-all : goal.returns-clause-all
returns-clause-all c =
    let now = λ (m : Bor Message). m.now in
    IsPermutation-trans (queue_in (contents c.args.region.now) c.args.queue) _ _ c.in_ok-messages.ensures (IsPermutation-map now _ _ c.sort_by_key.ensures.permutation)

pub returns-clause-order : goal.returns-clause-order
returns-clause-order c =
    rise_sorted c.sort_by_key.new.self.items (IsNonDecreasingBy-from_sort_by_key (λ (m : Bor Message). m.now.number) c.sort_by_key.new.self.items c.in_ok-sort_by_key.ensures.sorted (λ a r f called. search rules))
