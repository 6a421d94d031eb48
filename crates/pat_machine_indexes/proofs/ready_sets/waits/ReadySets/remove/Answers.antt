use Rattle.std.proofs.Common.{ℕ, List, Option, refl, arith}
use Rattle.pat_machine_indexes.proofs.ready_sets.waits.ReadySets.remove.Goals as goal

pub returns : goal.returns
returns c =
    let awake = c.remove.ensures in
    let senders = c.remove-2.ensures in
    let gone = awake.len in
    let less = senders.len in
    record {
      order = (awake.order, senders.order);
      own = awake.own;
      others = awake.others;
      only = awake.only;
      gone = senders.own;
      held = senders.others;
      held_only = senders.only;
      asleep = refl {A = List (Option ℕ)};
      space = record { len = omega arith; capacity = awake.capacity; held = omega arith; hold = senders.capacity };
    }
