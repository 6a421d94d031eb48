use Rattle.std.proofs.Common.{◌≡◌, true, sym, ap, ◌∙◌, subst, [], ◌∷◌, ◌++◌}
use Rattle.std.proofs.lemmas.Result.{err_from_is_err_and}
use Rattle.pat_core.specs.Views.{program_view}
use Rattle.pat_checkpoint_spec.specs.text.LineReading.{is_next, is_none, read_mailbox, with_mailbox}
use Rattle.pat_checkpoint_text.specs.Views.{mailbox_view}
use Rattle.pat_checkpoint_text.specs.Gathered.{Gathers}
use Rattle.pat_checkpoint_text.proofs.Grown.{no_messages, no_threads, behind_messages, behind_threads, no_mailbox_read, mailbox_behind, mailbox_read, mailbox_gathered, exits, spent}
use Rattle.pat_checkpoint_text.proofs.gathering.add_mailbox.Goals as goal

pub returns-then-not-is_empty : goal.returns-then-not-is_empty
returns-then-not-is_empty c = λ lines g.
    behind_messages (program_view c.args.program.now) lines c.args.text.now (no_messages lines c.args.x.now g ∙ sym c.is_empty.ensures ∙ c.if-not-is_empty.true)

pub returns-then-not-is_empty-2 : goal.returns-then-not-is_empty-2
returns-then-not-is_empty-2 c = λ lines g.
    behind_threads (program_view c.args.program.now) lines c.args.text.now (no_threads lines c.args.x.now g ∙ sym c.is_empty-2.ensures ∙ c.if-not-is_empty-2.true)

pub returns-in_err-line : goal.returns-in_err-line
returns-in_err-line c = λ lines g.
    let p = program_view c.args.program.now in
    let q = err_from_is_err_and c.from_residual.result c.from_residual.ensures.1 in
    exits mailbox_view (read_mailbox p c.args.text.now) (with_mailbox p lines c.args.text.now) c.args.x.now c.from_residual.result q.0 c.in_err-line.field-0.0 q.1 q.2 (no_mailbox_read p lines c.args.text.now) c.in_err-line.ensures

pub returns-then-not-is_next : goal.returns-then-not-is_next
returns-then-not-is_next c = λ lines g.
    let m = c.in_ok-line.line in
    mailbox_behind (program_view c.args.program.now) lines c.args.text.now (mailbox_view m) c.in_ok-line.ensures
    (ap (λ ks. is_next ks m.number) (g.live ∙ sym c.as_slice.ensures) ∙ sym c.is_next.ensures ∙ c.if-not-is_next.true)

pub returns-in_err-push_mailbox : goal.returns-in_err-push_mailbox
returns-in_err-push_mailbox c = λ lines g.
    let r = c.from_residual-in_err-push_mailbox in
    let q = err_from_is_err_and r.result r.ensures.1 in
    spent (with_mailbox (program_view c.args.program.now) lines c.args.text.now) c.push_mailbox.new.x r.result q.0 q.1 q.2

pub returns : goal.returns
returns c = λ lines g.
    let m = c.in_ok-line.line in
    let messages : is_none lines.messages ≡ true = no_messages lines c.args.x.now g ∙ sym c.is_empty.ensures ∙ c.if-not-is_empty.false in
    let threads : is_none lines.threads ≡ true = no_threads lines c.args.x.now g ∙ sym c.is_empty-2.ensures ∙ c.if-not-is_empty-2.false in
    let above : is_next c.args.x.now.config.live m.number ≡ true = ap (λ ks. is_next ks m.number) (sym c.as_slice.ensures) ∙ sym c.is_next.ensures ∙ c.if-not-is_next.false in (
      record lines { mailboxes = lines.mailboxes ++ mailbox_view m ∷ [] },
      mailbox_read (program_view c.args.program.now) lines c.args.text.now (mailbox_view m) messages threads c.in_ok-line.ensures (ap (λ ks. is_next ks m.number) g.live ∙ above),
      subst (Gathers (record lines { mailboxes = lines.mailboxes ++ mailbox_view m ∷ [] })) (sym c.in_ok-push_mailbox.ensures) (mailbox_gathered lines c.args.x.now g m above),
    )
