use Rattle.std.proofs.Common.{◌≡◌, ℕ, ◌≤◌, [], length, get_or}
use Rattle.pat_mailboxes.specs.queues.Pooled.{IsRegion, contents, spare_in}
use Rattle.pat_mailboxes.proofs.queues.region.Region.add_queues.Given as goal

-- each queue has what it had
abbrev pub invariant-loop : goal.invariant-loop
invariant-loop g l = record {
  region : IsRegion l.self;
  spare : spare_in l.self ≡ spare_in l.fn.self;
  count : l.counter ≤ length (contents l.self);
  more : length (contents l.fn.self) ≤ length (contents l.self);
  same : (queue : ℕ) → get_or (contents l.self) queue [] ≡ get_or (contents l.fn.self) queue [];
}
