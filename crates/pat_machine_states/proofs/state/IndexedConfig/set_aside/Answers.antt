use Rattle.std.proofs.Common.{ap, ◌∙◌}
use Rattle.pat_semantics_spec.specs.Configs.{thread_at, with_thread}
use Rattle.pat_reduce.specs.threads.ThreadViews.{thread_view}
use Rattle.pat_machine_laws.proofs.Locals.{there_after, with_twice, with_same}
use Rattle.pat_machine_states.proofs.state.IndexedConfig.set_aside.Goals as goal

pub swap-requires : goal.swap-requires
swap-requires c =
    let top = thread_view c.args.top in
    (top, ap (λ d. thread_at d c.args.thread) c.swap-kept.ensures.after ∙ there_after c.args.self.now.config c.args.thread (thread_view c.swap-kept.result) top c.swap-kept.ensures.before)

pub returns-in-Err-clause-err : goal.returns-in-Err-clause-err
returns-in-Err-clause-err c =
    let t = c.args.thread in
    let kept = thread_view c.swap-kept.result in
    c.swap.ensures.after
    ∙ ap (λ d. with_thread d t (thread_view c.in-Err.kept)) c.swap-kept.ensures.after
    ∙ with_twice c.args.self.now.config t (thread_view c.args.top) (thread_view c.in-Err.kept)
    ∙ ap (with_thread c.args.self.now.config t) c.in-Err.ensures.err
    ∙ with_same c.args.self.now.config t kept c.swap-kept.ensures.before
