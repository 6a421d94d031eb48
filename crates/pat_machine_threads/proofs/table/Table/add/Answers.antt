use Rattle.std.proofs.Common.{ap, arith}
use Rattle.pat_machine_threads.specs.table.Entries.{Threads}
use Rattle.pat_machine_threads.proofs.Slots.{at_most, counted_added, seen_added}
use Rattle.pat_machine_threads.proofs.table.Table.add.Goals as goal

pub overflow_add-self : goal.overflow_add-self
overflow_add-self c =
    let most = at_most 0 c.self.inside.slots.items in
    let counted = c.self.invariant.0 in
    let few = c.self.invariant.1 in
    omega (arith, most, counted, few)

pub invariant_of-self : goal.invariant_of-self
invariant_of-self c =
    let counted = counted_added c.self.inside.slots.items c.self.inside.spare c.args.self.now c.self.view_is c.args.state c.push_reserved.new.self.items c.push_reserved.ensures.items c.requires.number c.self.inside.present (c.self.invariant.0, c.self.invariant.1) in
    let room = c.self.invariant.2 in
    let len = c.push_reserved.ensures.len in
    let capacity = c.push_reserved.ensures.capacity in
    let spare = c.requires.room in
    let same = ap (λ (w : Threads). w.spare) c.self.view_is in
    (counted.0, counted.1, omega (arith, room, len, capacity, spare, same))

pub returns : goal.returns
returns c = seen_added c.self.inside.slots.items c.self.inside.spare c.args.self.now c.self.view_is c.args.state c.push_reserved.new.self.items c.push_reserved.ensures.items
