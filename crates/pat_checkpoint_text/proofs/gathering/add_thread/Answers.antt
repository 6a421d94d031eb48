use Rattle.std.proofs.Common.{◌≡◌, ℕ, true, sym, ap, ◌∙◌, subst, map, [], ◌∷◌, ◌++◌}
use Rattle.std.specs.Prelude.{option_and_then}
use Rattle.std.proofs.lemmas.Result.{err_from_is_err_and}
use Rattle.pat_core.specs.Views.{program_view}
use Rattle.pat_reduce.specs.declared.threads.state.ThreadState.{ThreadState}
use Rattle.pat_checkpoint_spec.specs.text.LineReading.{is_next, read_thread, add_thread, with_thread}
use Rattle.pat_checkpoint_text.specs.Views.{thread_view}
use Rattle.pat_checkpoint_text.specs.Gathered.{Gathers}
use Rattle.pat_checkpoint_text.proofs.Grown.{thread_numbers, thread_behind, thread_read, thread_gathered, exits, spent}
use Rattle.pat_checkpoint_text.proofs.gathering.add_thread.Goals as goal

pub returns-in_err-line : goal.returns-in_err-line
returns-in_err-line c = λ lines g.
    let p = program_view c.args.program.now in
    let q = err_from_is_err_and c.from_residual.result c.from_residual.ensures.1 in
    exits thread_view (read_thread p c.args.text.now) (with_thread p lines c.args.text.now) c.args.x.now c.from_residual.result q.0 c.in_err-line.field-0.0 q.1 q.2 (ap (option_and_then (add_thread lines))) c.in_err-line.ensures

pub returns-then-not-is_next_thread : goal.returns-then-not-is_next_thread
returns-then-not-is_next_thread c = λ lines g.
    let t = c.in_ok-line.line in
    thread_behind (program_view c.args.program.now) lines c.args.text.now (thread_view t) c.in_ok-line.ensures
    (ap (λ ks. is_next ks t.number) (thread_numbers lines c.args.x.now g ∙ ap (map (λ (e : ℕ × ThreadState). e.0)) (sym c.as_slice.ensures)) ∙ sym c.is_next_thread.ensures ∙ c.if-not-is_next_thread.true)

pub returns-in_err-push_thread : goal.returns-in_err-push_thread
returns-in_err-push_thread c = λ lines g.
    let r = c.from_residual-in_err-push_thread in
    let q = err_from_is_err_and r.result r.ensures.1 in
    spent (with_thread (program_view c.args.program.now) lines c.args.text.now) c.push_thread.new.x r.result q.0 q.1 q.2

pub returns : goal.returns
returns c = λ lines g.
    let t = c.in_ok-line.line in
    let above : is_next (map (λ k. k.number) lines.threads) t.number ≡ true = ap (λ ks. is_next ks t.number) (thread_numbers lines c.args.x.now g ∙ ap (map (λ (e : ℕ × ThreadState). e.0)) (sym c.as_slice.ensures)) ∙ sym c.is_next_thread.ensures ∙ c.if-not-is_next_thread.false in (
      record lines { threads = lines.threads ++ thread_view t ∷ [] },
      thread_read (program_view c.args.program.now) lines c.args.text.now (thread_view t) c.in_ok-line.ensures above,
      subst (Gathers (record lines { threads = lines.threads ++ thread_view t ∷ [] })) (sym c.in_ok-push_thread.ensures) (thread_gathered lines c.args.x.now g t),
    )
