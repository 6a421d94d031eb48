use Rattle.std.proofs.Common.{arith, sym, ◌∙◌}
use Rattle.pat_machine_threads.proofs.Slots.{there, has_slot, stood, removed_there, counted_removed}
use Rattle.pat_machine_threads.proofs.table.Table.remove.Goals as goal

pub replace_at-requires : goal.replace_at-requires
replace_at-requires c = has_slot c.self.inside.slots.items c.self.inside.spare c.args.self.now c.args.thread c.self.view_is c.requires

pub unreachable-requires : goal.unreachable-requires
unreachable-requires c =
    let own = there c.self.inside.slots.items c.self.inside.spare c.args.self.now c.args.thread c.self.view_is c.requires in
    let none = sym c.in-None.is ∙ c.replace_at.ensures.before ∙ own.1 in
    cc

pub invariant_of-self : goal.invariant_of-self
invariant_of-self c =
    let counted = counted_removed c.self.inside.slots.items c.self.inside.spare c.args.self.now c.args.thread c.self.view_is c.in-Some.state (sym c.replace_at.ensures.before ∙ c.in-Some.is)
    c.replace_at.new.slots.items c.replace_at.ensures.after c.self.inside.present (c.self.invariant.0, c.self.invariant.1) in
    let space = c.replace_at.ensures.space in
    let len = space.0 in
    let capacity = space.1 in
    let room = c.self.invariant.2 in
    (counted.0, counted.1, omega (arith, len, capacity, room))

pub returns-clause-before : goal.returns-clause-before
returns-clause-before c =
    stood c.self.inside.slots.items c.self.inside.spare c.args.self.now c.args.thread c.self.view_is c.in-Some.state (sym c.replace_at.ensures.before ∙ c.in-Some.is)

pub returns-clause-after : goal.returns-clause-after
returns-clause-after c =
    removed_there c.self.inside.slots.items c.self.inside.spare c.args.self.now c.args.thread c.self.view_is c.in-Some.state (sym c.replace_at.ensures.before ∙ c.in-Some.is)
    c.replace_at.new.slots.items c.replace_at.ensures.after
