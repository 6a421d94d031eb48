use Rattle.std.proofs.Common.{ap, ◌∙◌, subst}
use Rattle.pat_semantics_spec.specs.Configs.{Config}
use Rattle.pat_core.specs.Views.{program_view}
use Rattle.pat_reduce.specs.Views.{act_view, step_view}
use Rattle.pat_machine_threads.specs.store.ThreadStore.{placed_view, hollow}
use Rattle.pat_machine_threads.specs.store.Steps.{StepsApart}
use Rattle.pat_machine_threads.proofs.Apart.{moved, still_there, left_after, steps_apart}
use Rattle.pat_machine_threads.proofs.store.placed.ThreadStore.step_there.Goals as goal

pub put_back-requires-clause-left : goal.put_back-requires-clause-left
put_back-requires-clause-left c =
    let i = c.self.inside in
    let p = program_view c.args.code.now.program in
    let t = c.args.step.now.thread in
    let k = c.in_ok-set_apart.ensures in
    let e = c.reserve.ensures in
    let own = k.own in
    let apart = moved i.config i.table c.reserve.new.self c.set_apart.new.table t c.set_apart.new.threads c.self.invariant e.entries e.made k.made k.others own in
    let after = c.step_at_place-taken.new.self in
    (after.next_thread, left_after p i.config i.table t own.0 c.set_apart.new.threads c.set_apart.new.table apart (act_view c.args.step.now.act) (ap (λ (x : Config). x.messages) c.self.view_is ∙ c.requires.none) after c.step_at_place-taken.result c.step_at_place-taken.ensures)

pub put_back-requires-clause-there : goal.put_back-requires-clause-there
put_back-requires-clause-there c =
    let i = c.self.inside in
    let p = program_view c.args.code.now.program in
    let t = c.args.step.now.thread in
    let k = c.in_ok-set_apart.ensures in
    let e = c.reserve.ensures in
    let own = k.own in
    let apart = moved i.config i.table c.reserve.new.self c.set_apart.new.table t c.set_apart.new.threads c.self.invariant e.entries e.made k.made k.others own in
    (hollow, still_there p i.config i.table t own.0 c.set_apart.new.threads c.set_apart.new.table apart)

pub invariant_of-self-2 : goal.invariant_of-self-2
invariant_of-self-2 c =
    let i = c.self.inside in
    let p = program_view c.args.code.now.program in
    let t = c.args.step.now.thread in
    let k = c.in_ok-set_apart.ensures in
    let e = c.reserve.ensures in
    let own = k.own in
    let apart = moved i.config i.table c.reserve.new.self c.set_apart.new.table t c.set_apart.new.threads c.self.invariant e.entries e.made k.made k.others own in
    let after = c.step_at_place-taken.new.self in
    let left = left_after p i.config i.table t own.0 c.set_apart.new.threads c.set_apart.new.table apart (act_view c.args.step.now.act) (ap (λ (x : Config). x.messages) c.self.view_is ∙ c.requires.none) after c.step_at_place-taken.result c.step_at_place-taken.ensures in
    record { none = c.put_back.ensures.none; made = c.put_back.ensures.made after.next_thread left }

pub returns : goal.returns
returns c =
    let i = c.self.inside in
    let p = program_view c.args.code.now.program in
    let t = c.args.step.now.thread in
    let k = c.in_ok-set_apart.ensures in
    let e = c.reserve.ensures in
    let own = k.own in
    let apart = moved i.config i.table c.reserve.new.self c.set_apart.new.table t c.set_apart.new.threads c.self.invariant e.entries e.made k.made k.others own in
    let after = c.step_at_place-taken.new.self in
    subst (λ d. StepsApart p d (step_view c.args.step.now) (placed_view (record after { threads = c.put_back.new.threads }) c.put_back.new.table) c.step_at_place-taken.result) c.self.view_is
    (steps_apart p i.config i.table t own.0 c.set_apart.new.threads c.set_apart.new.table apart (act_view c.args.step.now.act) (ap (λ (x : Config). x.messages) c.self.view_is ∙ c.requires.none) after c.put_back.new.threads c.put_back.new.table c.put_back.ensures.entries c.step_at_place-taken.result c.step_at_place-taken.ensures)
