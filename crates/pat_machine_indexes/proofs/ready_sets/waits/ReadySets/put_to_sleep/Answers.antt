use Rattle.std.proofs.Common.{◌≡◌, Some, sym, ap, subst, arith}
use Rattle.pat_machine_indexes.specs.ready_sets.ReadySets.{sleeper_at, count_asleep}
use Rattle.pat_machine_laws.proofs.Tables.{set_here}
use Rattle.pat_machine_indexes.proofs.Slept.{filled, unfilled, filled_count, within}
use Rattle.pat_machine_indexes.proofs.ready_sets.waits.ReadySets.put_to_sleep.Goals as goal

pub returns : goal.returns
returns c =
    let w = c.args.self.now in
    let ss = w.sleepers.items in
    let a = c.args.mailbox in
    let t = c.args.thread in
    let k = c.remove.ensures in
    let asleep = ap count_asleep k.asleep in
    let one = filled_count ss a t c.requires.free in
    let len = k.space.len in
    let held = k.space.held in
    record {
      order = k.order;
      own = subst (λ l. sleeper_at l a ≡ Some t) (sym k.asleep) (set_here ss a (Some t) (within ss a _ c.requires.free));
      gone = k.own;
      others = k.others;
      only = k.only;
      held = k.held;
      held_only = k.held_only;
      asleep = λ b u s. subst (λ l. sleeper_at l b ≡ Some u) (sym k.asleep) (filled ss a t b u c.requires.free s);
      slept = λ b u s. unfilled ss a t b u (within ss a _ c.requires.free) (subst (λ l. sleeper_at l b ≡ Some u) k.asleep s);
      space = record { len = omega arith; capacity = k.space.capacity; held = omega arith; hold = k.space.hold };
    }
