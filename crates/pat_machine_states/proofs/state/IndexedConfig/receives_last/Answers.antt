use Rattle.std.proofs.Common.{◌≡◌, Some, sym, ap, ◌∙◌, subst}
use Rattle.std.specs.Prelude.{IsTrue, ◌↔◌, option_map}
use Rattle.pat_semantics_spec.specs.Configs.{Config, thread_at}
use Rattle.pat_semantics_spec.specs.Steps.{ActReceive, redex}
use Rattle.pat_semantics_laws.specs.Laws.{IsEnabled}
use Rattle.pat_core.specs.Views.{program_view}
use Rattle.pat_reduce.specs.threads.ThreadViews.{thread_view, message_view}
use Rattle.pat_reduce.specs.threads.GuardViews.{guard_view}
use Rattle.pat_reduce.specs.threads.ThreadActs.{guard_at, takes}
use Rattle.pat_machine_laws.specs.mailbox_index.Pending.{Ascend}
use Rattle.pat_machine_states.proofs.Awaiting.{receives_last_exactly}
use Rattle.pat_machine_states.proofs.Seen.{config_of}
use Rattle.pat_machine_states.proofs.state.IndexedConfig.receives_last.Goals as goal

pub returns-in-Some-last_message : goal.returns-in-Some-last_message
returns-in-Some-last_message c ms m last next =
    let p = program_view c.args.code.now.program in
    let d = c.args.self.now.config in
    let t = c.args.thread in
    let s = thread_view c.in-Some.state.now in
    let g = guard_view c.in-Some-guard_of.guard in
    let there : thread_at d t ≡ Some s = sym (c.in-Some.ensures ∙ ap (λ (x : Config). thread_at x t) (config_of c.self.view_is)) in
    let at : guard_at (redex p s.control) ≡ Some g = sym c.guard_of.ensures ∙ ap (option_map guard_view) c.in-Some-guard_of.is in
    let ascends = subst (λ (x : Config). Ascend x.messages) (config_of c.self.view_is) c.self.invariant.boxes.kept.distinct in
    let both : Some (message_view c.in-Some-last_message.message.now) ≡ Some m = c.in-Some-last_message.ensures ms m last next in
    let same : message_view c.in-Some-last_message.message.now ≡ m = cc in
    subst (λ b. IsTrue b ↔ IsEnabled p d (record { thread = t; act = ActReceive m.number })) (sym (c.takes.ensures ∙ ap (takes g) same)) (receives_last_exactly p d t s g ms m there at ascends last)
