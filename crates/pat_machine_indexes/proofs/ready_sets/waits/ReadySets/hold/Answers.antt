use Rattle.std.proofs.Common.{ℕ, List, Option, refl, arith}
use Rattle.pat_machine_indexes.proofs.ready_sets.waits.ReadySets.hold.Goals as goal

pub returns : goal.returns
returns c =
    let less = c.remove.ensures in
    let more = c.add.ensures in
    let gone = less.len in
    let one = more.len in
    record {
      order = (less.order, more.order);
      own = more.own;
      held = more.others;
      held_only = more.only;
      gone = less.own;
      others = less.others;
      only = less.only;
      asleep = refl {A = List (Option ℕ)};
      space = record { len = omega arith; capacity = less.capacity; held = one; hold = more.capacity };
    }
