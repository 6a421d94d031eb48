use Rattle.std.proofs.Common.{◌≡◌, ◌+◌, suc, length, arith}
use Rattle.std.proofs.lemmas.List.{length-map}
use Rattle.std.proofs.lemmas.Result.{IfOk-weaker}
use Rattle.pat_reduce.specs.threads.ThreadViews.{frame_view, thread_view}
use Rattle.pat_checkpoint_certificates.specs.Parts.{thread_needs}
use Rattle.pat_checkpoint_certificates.proofs.Threads.{thread_count}
use Rattle.pat_checkpoint_certificates.proofs.parts.line_after_thread.Goals as goal

pub returns : goal.returns
returns c = λ p y.
    let t = thread_view c.args.thread.now in
    let next : c.in_ok-next.next ≡ c.args.line + 1 = c.in_ok-next.ensures in
    let count : length (thread_needs p y t) ≡ suc (length t.frames) = thread_count p y t in
    let frames : length t.frames ≡ length c.args.thread.now.frames = length-map c.args.thread.now.frames frame_view in
    let own : c.len.result ≡ length c.args.thread.now.frames = c.len.ensures in
    IfOk-weaker c.line_after-2.result _ (λ n. n ≡ c.args.line + length (thread_needs p y t)) (λ n h. let there : n ≡ c.in_ok-next.next + c.len.result = h in omega (arith, there, next, count, frames, own)) c.line_after-2.ensures
