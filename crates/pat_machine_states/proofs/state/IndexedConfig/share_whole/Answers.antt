use Rattle.std.proofs.Common.{sym, ap, ◌∙◌, subst}
use Rattle.pat_semantics_spec.specs.Configs.{thread_at, with_thread}
use Rattle.pat_semantics_spec.specs.Orders.{IsOrdered}
use Rattle.pat_semantics_spec.specs.Steps.{message_at}
use Rattle.pat_core.specs.Views.{program_view}
use Rattle.pat_reduce.specs.threads.ThreadViews.{thread_view}
use Rattle.pat_machine_laws.proofs.Locals.{there_after, with_twice, with_same}
use Rattle.pat_machine_states.specs.Stepping.{ReferToLive}
use Rattle.pat_machine_states.proofs.Reaching.{stands_there}
use Rattle.pat_machine_states.proofs.Seen.{still_has_place}
use Rattle.pat_machine_states.proofs.state.IndexedConfig.share_whole.Goals as goal

pub take_open-requires-clause-place : goal.take_open-requires-clause-place
take_open-requires-clause-place c = still_has_place c.args.self.now c.swap-kept.new.self c.args.limit c.args.thread (thread_view c.args.top) c.swap-kept.ensures.after c.swap-kept.ensures.places c.requires.place

pub take_open-requires-clause-ordered : goal.take_open-requires-clause-ordered
take_open-requires-clause-ordered c = subst IsOrdered (sym c.swap-kept.ensures.after) c.requires.typed.typed.numbers.ordered

pub take_open-requires-clause-live : goal.take_open-requires-clause-live
take_open-requires-clause-live c = subst ReferToLive (sym c.swap-kept.ensures.after) c.requires.typed.typed.numbers.threads_live

pub take_open-requires-clause-alone : goal.take_open-requires-clause-alone
take_open-requires-clause-alone c =
    let top = thread_view c.args.top in
    let there = ap (λ d. thread_at d c.args.thread) c.swap-kept.ensures.after ∙ there_after c.args.self.now.config c.args.thread (thread_view c.swap-kept.result) top c.swap-kept.ensures.before in
    stands_there (program_view c.args.code.now.program) c.args.self.now.config c.swap-kept.new.self.config c.args.thread top c.args.counted c.swap-kept.ensures.after there c.requires.alone

pub swap-requires : goal.swap-requires
swap-requires c =
    let top = thread_view c.args.top in
    (top, ap (λ d. thread_at d c.args.thread) (c.in-Err.ensures.err ∙ c.swap-kept.ensures.after) ∙ there_after c.args.self.now.config c.args.thread (thread_view c.swap-kept.result) top c.swap-kept.ensures.before)

pub returns-in-Err-clause-err : goal.returns-in-Err-clause-err
returns-in-Err-clause-err c =
    let t = c.args.thread in
    let kept = thread_view c.swap-kept.result in
    c.swap.ensures.after
    ∙ ap (λ d. with_thread d t kept) (c.in-Err.ensures.err ∙ c.swap-kept.ensures.after)
    ∙ with_twice c.args.self.now.config t (thread_view c.args.top) kept
    ∙ with_same c.args.self.now.config t kept c.swap-kept.ensures.before

pub returns-in-Ok-clause-message : goal.returns-in-Ok-clause-message
returns-in-Ok-clause-message c = λ k is. c.in-Ok.ensures.message k is ∙ ap (λ d. message_at d k) c.swap-kept.ensures.after
