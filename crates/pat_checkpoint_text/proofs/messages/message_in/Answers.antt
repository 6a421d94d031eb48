use Rattle.std.proofs.Common.{◌≡◌, ap, sym, ◌∙◌, subst, rules}
use Rattle.std.specs.Prelude.{Some, None, option_and_then}
use Rattle.std.proofs.lemmas.Result.{err_from_is_err_and}
use Rattle.pat_core.specs.Views.{program_view}
use Rattle.pat_reduce.specs.threads.ThreadViews.{message_view}
use Rattle.pat_texts_spec.specs.Joined.{cut}
use Rattle.pat_texts_spec.specs.Numbers.{read_number}
use Rattle.pat_derivation_lines.specs.patterns.Answers.{Gives}
use Rattle.pat_checkpoint_spec.specs.text.LineReading.{message_in, message_tagged, message_with}
use Rattle.pat_checkpoint_text.proofs.Exits.{part_unread}
use Rattle.pat_checkpoint_text.proofs.messages.message_in.Goals as goal

pub returns-in_err-mailbox-in-Some : goal.returns-in_err-mailbox-in-Some
returns-in_err-mailbox-in-Some c = λ lines g.
    let p = program_view c.args.program.now in
    let ms = lines.mailboxes in
    let n = c.args.number in
    let own = c.in-Some.own.now in
    let more = c.in-Some.more.now in
    let cut_is : cut 32 c.args.text.now ≡ Some (own, more) = search rules in
    let q = err_from_is_err_and c.from_residual.result c.from_residual.ensures.1 in
    subst (λ o. Gives message_view (option_and_then (message_in p ms n) o) c.from_residual.result) (sym cut_is)
    (part_unread (λ k. k) (read_number own) message_view (message_in p ms n (own, more)) c.from_residual.result q.0 c.in_err-mailbox-in-Some.field-0.0 q.1 q.2
    (ap (option_and_then (λ b. option_and_then (message_tagged p ms n b) (cut 40 more)))) c.in_err-mailbox-in-Some.ensures)

pub returns-in-Some-cut : goal.returns-in-Some-cut
returns-in-Some-cut c = λ lines g.
    let p = program_view c.args.program.now in
    let ms = lines.mailboxes in
    let n = c.args.number in
    let b = c.in_ok-mailbox-in-Some.mailbox in
    let more = c.in-Some.more.now in
    let text = c.in-Some-cut.payload.now in
    let res = c.message_tagged.result in
    let cut_is : cut 32 c.args.text.now ≡ Some (c.in-Some.own.now, more) = search rules in
    let number_is : read_number c.in-Some.own.now ≡ Some b = search rules in
    let inner_is : cut 40 more ≡ Some (c.in-Some-cut.name.now, text) = search rules in
    subst (λ o. Gives message_view (option_and_then (message_in p ms n) o) res) (sym cut_is)
    (subst (λ o. Gives message_view (option_and_then (λ k. option_and_then (message_tagged p ms n k) (cut 40 more)) o) res) (sym number_is)
    (subst (λ o. Gives message_view (option_and_then (message_tagged p ms n b) o) res) (sym inner_is)
    (subst (λ o. Gives message_view (option_and_then (λ t. message_with n b t text) o) res) (c.tag_in-tag.ensures lines g) c.message_tagged.ensures)))

pub returns-in-None-cut : goal.returns-in-None-cut
returns-in-None-cut c = λ lines g.
    let p = program_view c.args.program.now in
    let ms = lines.mailboxes in
    let n = c.args.number in
    let b = c.in_ok-mailbox-in-Some.mailbox in
    let more = c.in-Some.more.now in
    let cut_is : cut 32 c.args.text.now ≡ Some (c.in-Some.own.now, more) = search rules in
    let number_is : read_number c.in-Some.own.now ≡ Some b = search rules in
    let inner_is : cut 40 more ≡ None = search rules in
    ap (option_and_then (message_in p ms n)) cut_is ∙ ap (option_and_then (λ k. option_and_then (message_tagged p ms n k) (cut 40 more))) number_is ∙ ap (option_and_then (message_tagged p ms n b)) inner_is

pub returns-in-None : goal.returns-in-None
returns-in-None c = λ lines g.
    let cut_is : cut 32 c.args.text.now ≡ None = search rules in
    ap (option_and_then (message_in (program_view c.args.program.now) lines.mailboxes c.args.number)) cut_is
