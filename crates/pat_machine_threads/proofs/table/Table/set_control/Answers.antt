use Rattle.std.proofs.Common.{arith, ◌≡◌, ap, ◌∙◌, nat_eq}
use Rattle.std.specs.Map.{set_value}
use Rattle.pat_semantics_spec.specs.Configs.{Thread}
use Rattle.pat_reduce.specs.threads.ThreadViews.{control_view, thread_view}
use Rattle.pat_reduce.specs.Views.{threads_view}
use Rattle.pat_machine_threads.proofs.Slots.{there, stood, set_there, counted_set, as_many}
use Rattle.pat_machine_threads.proofs.table.Table.set_control.Goals as goal

pub set_control_at-requires : goal.set_control_at-requires
set_control_at-requires c = there c.self.inside.slots.items c.self.inside.spare c.args.self.now c.args.thread c.self.view_is c.requires

pub invariant_of-self : goal.invariant_of-self
invariant_of-self c =
    let own = there c.self.inside.slots.items c.self.inside.spare c.args.self.now c.args.thread c.self.view_is c.requires in
    let counted = counted_set c.self.inside.slots.items c.self.inside.spare c.args.self.now c.args.thread c.self.view_is own.0 own.1
    (record { control = c.args.control; frames = own.0.frames }) c.set_control_at.new.slots.items (c.set_control_at.ensures.after own.0 own.1) c.self.inside.present (c.self.invariant.0, c.self.invariant.1) in
    let space = c.set_control_at.ensures.space in
    let len = space.0 in
    let capacity = space.1 in
    let room = c.self.invariant.2 in
    (counted.0, counted.1, omega (arith, len, capacity, room))

pub returns-clause-made : goal.returns-clause-made
returns-clause-made c =
    let own = there c.self.inside.slots.items c.self.inside.spare c.args.self.now c.args.thread c.self.view_is c.requires in
    as_many c.self.inside.slots.items c.self.inside.spare c.args.self.now c.args.thread c.self.view_is own.0 own.1
    (record { control = c.args.control; frames = own.0.frames }) c.set_control_at.new.slots.items (c.set_control_at.ensures.after own.0 own.1)

pub returns-clause-after : goal.returns-clause-after
returns-clause-after c s at =
    let own = there c.self.inside.slots.items c.self.inside.spare c.args.self.now c.args.thread c.self.view_is c.requires in
    let before = stood c.self.inside.slots.items c.self.inside.spare c.args.self.now c.args.thread c.self.view_is own.0 own.1 in
    let same : thread_view own.0 ≡ s = cc in
    set_there c.self.inside.slots.items c.self.inside.spare c.args.self.now c.args.thread c.self.view_is own.0 own.1
    (record { control = c.args.control; frames = own.0.frames }) c.set_control_at.new.slots.items (c.set_control_at.ensures.after own.0 own.1)
    ∙ ap (λ (x : Thread). set_value (nat_eq c.args.thread) (threads_view c.args.self.now.entries) (record { control = control_view c.args.control; frames = x.frames })) same
