use Rattle.std.proofs.Common.{arith, ◌≡◌, ◌++◌, ap, sym, ◌∙◌, nat_eq, drop, map}
use Rattle.std.specs.Map.{set_value}
use Rattle.std.proofs.lemmas.List.{length-map, map-append, drop-map}
use Rattle.pat_semantics_spec.specs.Configs.{Thread}
use Rattle.pat_reduce.specs.threads.ThreadViews.{frame_view, thread_view}
use Rattle.pat_reduce.specs.Views.{threads_view}
use Rattle.pat_machine_threads.proofs.Slots.{there, stood, set_there, counted_set, as_many}
use Rattle.pat_machine_threads.proofs.table.Table.cover.Goals as goal

pub cover_at-requires-clause-there : goal.cover_at-requires-clause-there
cover_at-requires-clause-there c = there c.self.inside.slots.items c.self.inside.spare c.args.self.now c.args.thread c.self.view_is c.requires.there

pub cover_at-requires-clause-room : goal.cover_at-requires-clause-room
cover_at-requires-clause-room c s at =
    let stands = stood c.self.inside.slots.items c.self.inside.spare c.args.self.now c.args.thread c.self.view_is s at in
    let few = c.requires.room (thread_view s) stands in
    let len = length-map s.frames frame_view in
    omega arith

pub invariant_of-self : goal.invariant_of-self
invariant_of-self c =
    let own = there c.self.inside.slots.items c.self.inside.spare c.args.self.now c.args.thread c.self.view_is c.requires.there in
    let counted = counted_set c.self.inside.slots.items c.self.inside.spare c.args.self.now c.args.thread c.self.view_is own.0 own.1
    (record { control = own.0.control; frames = own.0.frames ++ drop c.args.gone c.args.base.0 }) c.cover_at.new.slots.items (c.cover_at.ensures.after own.0 own.1) c.self.inside.present (c.self.invariant.0, c.self.invariant.1) in
    let space = c.cover_at.ensures.space in
    let len = space.0 in
    let capacity = space.1 in
    let room = c.self.invariant.2 in
    (counted.0, counted.1, omega (arith, len, capacity, room))

pub returns-clause-made : goal.returns-clause-made
returns-clause-made c =
    let own = there c.self.inside.slots.items c.self.inside.spare c.args.self.now c.args.thread c.self.view_is c.requires.there in
    as_many c.self.inside.slots.items c.self.inside.spare c.args.self.now c.args.thread c.self.view_is own.0 own.1
    (record { control = own.0.control; frames = own.0.frames ++ drop c.args.gone c.args.base.0 }) c.cover_at.new.slots.items (c.cover_at.ensures.after own.0 own.1)

pub returns-clause-after : goal.returns-clause-after
returns-clause-after c s at =
    let own = there c.self.inside.slots.items c.self.inside.spare c.args.self.now c.args.thread c.self.view_is c.requires.there in
    let before = stood c.self.inside.slots.items c.self.inside.spare c.args.self.now c.args.thread c.self.view_is own.0 own.1 in
    let same : thread_view own.0 ≡ s = cc in
    let below = drop c.args.gone c.args.base.0 in
    set_there c.self.inside.slots.items c.self.inside.spare c.args.self.now c.args.thread c.self.view_is own.0 own.1
    (record { control = own.0.control; frames = own.0.frames ++ below }) c.cover_at.new.slots.items (c.cover_at.ensures.after own.0 own.1)
    ∙ ap (λ fs. set_value (nat_eq c.args.thread) (threads_view c.args.self.now.entries) (record { control = (thread_view own.0).control; frames = fs }))
    (map-append frame_view own.0.frames below ∙ ap (λ l. map frame_view own.0.frames ++ l) (sym (drop-map frame_view c.args.gone c.args.base.0)))
    ∙ ap (λ (x : Thread). set_value (nat_eq c.args.thread) (threads_view c.args.self.now.entries) (record { control = x.control; frames = x.frames ++ drop c.args.gone (map frame_view c.args.base.0) })) same
