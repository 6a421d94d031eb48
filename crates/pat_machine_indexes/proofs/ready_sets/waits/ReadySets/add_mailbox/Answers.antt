use Rattle.std.proofs.Common.{ap, refl, arith}
use Rattle.pat_machine_indexes.specs.ready_sets.ReadySets.{count_asleep}
use Rattle.pat_machine_indexes.proofs.Slept.{appended_count}
use Rattle.pat_machine_indexes.proofs.ready_sets.waits.ReadySets.add_mailbox.Goals as goal

pub returns : goal.returns
returns c =
    let asleep = ap count_asleep c.push_reserved.ensures.items in
    let same = appended_count c.args.self.now.sleepers.items in
    record {
      awake = refl;
      senders = refl;
      asleep = c.push_reserved.ensures.items;
      space = record { len = omega arith; capacity = omega arith; held = omega arith; hold = omega arith };
    }
