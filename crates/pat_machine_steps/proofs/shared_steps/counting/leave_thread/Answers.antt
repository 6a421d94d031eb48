use Rattle.std.proofs.Common.{sym, ap, ◌∙◌, arith}
use Rattle.std.specs.Prelude.{option_map, option_copied}
use Rattle.pat_reduce.specs.threads.ThreadViews.{thread_view}
use Rattle.pat_machine_steps.proofs.Left.{top_within}
use Rattle.pat_machine_steps.proofs.shared_steps.counting.leave_thread.Goals as goal

pub forget_top-requires : goal.forget_top-requires
forget_top-requires c a =
    let there = sym c.thread.ensures ∙ ap (λ o. option_map thread_view (option_copied o)) c.in-Some.is in
    let within = top_within c.args.state.now.config a c.args.thread c.args.frames (thread_view c.in-Some.own.now) there in
    let all = c.requires.counted.times a in
    omega arith
