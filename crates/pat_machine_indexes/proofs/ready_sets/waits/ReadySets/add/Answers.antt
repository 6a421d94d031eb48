use Rattle.std.proofs.Common.{ℕ, List, Option, refl, arith}
use Rattle.pat_machine_indexes.proofs.ready_sets.waits.ReadySets.add.Goals as goal

pub returns : goal.returns
returns c =
    let less = c.remove.ensures in
    let more = c.add.ensures in
    let gone = less.len in
    let one = more.len in
    let low = less.capacity in
    let high = more.capacity in
    record {
      order = (more.order, less.order);
      own = more.own;
      others = more.others;
      only = more.only;
      gone = less.own;
      held = less.others;
      held_only = less.only;
      asleep = refl {A = List (Option ℕ)};
      space = record { len = omega arith; capacity = high; held = omega arith; hold = low };
      room = λ had. had;
    }
