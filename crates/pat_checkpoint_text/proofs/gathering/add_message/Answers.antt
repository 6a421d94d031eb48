use Rattle.std.proofs.Common.{◌≡◌, true, sym, ap, ◌∙◌, subst, map, [], ◌∷◌, ◌++◌}
use Rattle.std.proofs.lemmas.Result.{err_from_is_err_and}
use Rattle.pat_core.specs.Views.{program_view}
use Rattle.pat_reduce.specs.declared.threads.state.Message.{Message}
use Rattle.pat_reduce.specs.threads.ThreadViews.{message_view}
use Rattle.pat_checkpoint_spec.specs.text.LineReading.{is_next, is_none, read_message, with_message}
use Rattle.pat_checkpoint_text.specs.Gathered.{Gathers}
use Rattle.pat_checkpoint_text.proofs.Grown.{no_threads, message_numbers, no_message_here, no_message_read, message_behind, message_read, message_gathered, exits, spent}
use Rattle.pat_checkpoint_text.proofs.gathering.add_message.Goals as goal

pub returns-then-not-is_empty : goal.returns-then-not-is_empty
returns-then-not-is_empty c = λ lines g.
    no_message_here (program_view c.args.program.now) lines c.args.text.now (no_threads lines c.args.x.now g ∙ sym c.is_empty.ensures ∙ c.if-not-is_empty.true)

pub returns-in_err-message : goal.returns-in_err-message
returns-in_err-message c = λ lines g.
    let p = program_view c.args.program.now in
    let q = err_from_is_err_and c.from_residual.result c.from_residual.ensures.1 in
    exits message_view (read_message p lines.mailboxes c.args.text.now) (with_message p lines c.args.text.now) c.args.x.now c.from_residual.result q.0 c.in_err-message.field-0.0 q.1 q.2 (no_message_read p lines c.args.text.now) (c.in_err-message.ensures lines g)

pub returns-then-not-is_next_message : goal.returns-then-not-is_next_message
returns-then-not-is_next_message c = λ lines g.
    let m = c.in_ok-message.message in
    message_behind (program_view c.args.program.now) lines c.args.text.now (message_view m) (c.in_ok-message.ensures lines g)
    (ap (λ ks. is_next ks m.number) (message_numbers lines c.args.x.now g ∙ ap (map (λ (k : Message). k.number)) (sym c.as_slice.ensures)) ∙ sym c.is_next_message.ensures ∙ c.if-not-is_next_message.true)

pub returns-in_err-push : goal.returns-in_err-push
returns-in_err-push c = λ lines g.
    let r = c.from_residual-in_err-push in
    let q = err_from_is_err_and r.result r.ensures.1 in
    spent (with_message (program_view c.args.program.now) lines c.args.text.now) (record c.args.x.now { config = record c.args.x.now.config { messages = c.push.new.self } }) r.result q.0 q.1 q.2

pub returns : goal.returns
returns c = λ lines g.
    let m = c.in_ok-message.message in
    let threads : is_none lines.threads ≡ true = no_threads lines c.args.x.now g ∙ sym c.is_empty.ensures ∙ c.if-not-is_empty.false in
    let above : is_next (map (λ k. k.number) lines.messages) m.number ≡ true = ap (λ ks. is_next ks m.number) (message_numbers lines c.args.x.now g ∙ ap (map (λ (k : Message). k.number)) (sym c.as_slice.ensures)) ∙ sym c.is_next_message.ensures ∙ c.if-not-is_next_message.false in (
      record lines { messages = lines.messages ++ message_view m ∷ [] },
      message_read (program_view c.args.program.now) lines c.args.text.now (message_view m) threads (c.in_ok-message.ensures lines g) above,
      subst (λ ms. Gathers (record lines { messages = lines.messages ++ message_view m ∷ [] }) (record c.args.x.now { config = record c.args.x.now.config { messages = ms } })) (sym c.in_ok-push.ensures.ok) (message_gathered lines c.args.x.now g m),
    )
