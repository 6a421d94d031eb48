use Rattle.std.proofs.Common.{◌≡◌, ap, sym, subst, rules}
use Rattle.std.specs.Prelude.{Some, None, option_and_then}
use Rattle.std.proofs.lemmas.Result.{err_from_is_err_and}
use Rattle.pat_core.specs.Views.{program_view}
use Rattle.pat_reduce.specs.threads.ThreadViews.{message_view}
use Rattle.pat_texts_spec.specs.Joined.{cut}
use Rattle.pat_texts_spec.specs.Numbers.{read_number}
use Rattle.pat_derivation_lines.specs.patterns.Answers.{Gives}
use Rattle.pat_checkpoint_spec.specs.text.LineReading.{message_of, message_in}
use Rattle.pat_checkpoint_text.proofs.Exits.{part_unread}
use Rattle.pat_checkpoint_text.proofs.messages.read_message.Goals as goal

pub returns-in_err-number-in-Some : goal.returns-in_err-number-in-Some
returns-in_err-number-in-Some c = λ lines g.
    let p = program_view c.args.program.now in
    let ms = lines.mailboxes in
    let own = c.in-Some.own.now in
    let more = c.in-Some.more.now in
    let cut_is : cut 32 c.args.text.now ≡ Some (own, more) = search rules in
    let q = err_from_is_err_and c.from_residual.result c.from_residual.ensures.1 in
    subst (λ o. Gives message_view (option_and_then (message_of p ms) o) c.from_residual.result) (sym cut_is)
    (part_unread (λ k. k) (read_number own) message_view (message_of p ms (own, more)) c.from_residual.result q.0 c.in_err-number-in-Some.field-0.0 q.1 q.2
    (ap (option_and_then (λ n. option_and_then (message_in p ms n) (cut 32 more)))) c.in_err-number-in-Some.ensures)

pub returns-in_ok-number-in-Some : goal.returns-in_ok-number-in-Some
returns-in_ok-number-in-Some c = λ lines g.
    let p = program_view c.args.program.now in
    let ms = lines.mailboxes in
    let more = c.in-Some.more.now in
    let n = c.in_ok-number-in-Some.number in
    let cut_is : cut 32 c.args.text.now ≡ Some (c.in-Some.own.now, more) = search rules in
    let number_is : read_number c.in-Some.own.now ≡ Some n = search rules in
    subst (λ o. Gives message_view (option_and_then (message_of p ms) o) c.message_in.result) (sym cut_is)
    (subst (λ o. Gives message_view (option_and_then (λ k. option_and_then (message_in p ms k) (cut 32 more)) o) c.message_in.result) (sym number_is) (c.message_in.ensures lines g))

pub returns-in-None : goal.returns-in-None
returns-in-None c = λ lines g.
    let cut_is : cut 32 c.args.text.now ≡ None = search rules in
    ap (option_and_then (message_of (program_view c.args.program.now) lines.mailboxes)) cut_is
