use Rattle.std.proofs.Common.{sym, ◌∙◌, subst}
use Rattle.pat_core.specs.Views.{program_view}
use Rattle.std.proofs.lemmas.List.{length-map}
use Rattle.pat_reduce.specs.threads.ThreadViews.{frame_view, thread_view}
use Rattle.pat_machine_laws.proofs.Freed.{counts_tell_without_top}
use Rattle.pat_machine_steps.specs.shared_steps.Settling.{half_way}
use Rattle.pat_machine_steps.specs.shared_steps.Leaving.{IsLeft}
use Rattle.pat_machine_states.specs.Taking.{taken_act, taken_message}
use Rattle.pat_machine_steps.proofs.Settled.{run_of, shared_or_none}
use Rattle.pat_machine_steps.proofs.Left.{left_of}
use Rattle.pat_machine_steps.proofs.shared_steps.sharing.share.Goals as goal

pub finish-requires-clause-alone : goal.finish-requires-clause-alone
finish-requires-clause-alone c = λ s at.
    let p = program_view c.args.code.now.program in
    let settled = c.args.settled in
    counts_tell_without_top p c.args.state.now.config c.leave_thread.new.names.times.items c.args.thread settled.gone s (thread_view settled.end) c.requires.well c.requires.ordered at (c.requires.typed s at) (c.leave_thread.ensures.counted s at)

pub count_end-requires-clause-left : goal.count_end-requires-clause-left
count_end-requires-clause-left c =
    let p = program_view c.args.code.now.program in
    let m = c.args.state.now.config in
    let d = c.finish.new.state.config in
    let settled = c.args.settled in
    let q = c.requires.settled in
    let ns = c.leave_thread.new.names.times.items in
    let act = taken_act c.finish.new.taken in
    let message = taken_message c.finish.new.taken in
    let f = c.in-Ok.ensures.ok q.kept q.there in
    let run = run_of p c.args.allowance c.args.limit (half_way m c.args.thread q.kept settled) d c.args.thread settled.steps act f q.run.local.within in
    let shared = shared_or_none p m c.args.thread c.args.allowance settled q c.args.limit act d f in
    let frames = length-map settled.end.frames frame_view ∙ sym c.len-frames.ensures in
    subst (λ k. IsLeft c.args.thread c.len-frames.result k act message ns d) (sym c.threads_made-newcomer.ensures)
    (subst (λ k. IsLeft c.args.thread k m.next_thread act message ns d) frames
    (left_of p m d ns c.args.thread settled.gone q.kept (thread_view settled.end) act message c.requires.ordered q.there shared (c.leave_thread.ensures.counted q.kept q.there) run c.in-Ok.ensures.message))
