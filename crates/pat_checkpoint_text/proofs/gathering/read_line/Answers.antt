use Rattle.std.proofs.Common.{◌≡◌, refl, sym, subst, rules}
use Rattle.std.specs.Prelude.{Some, None, codes, option_and_then}
use Rattle.pat_core.specs.Views.{program_view}
use Rattle.pat_texts_spec.specs.Fronts.{behind}
use Rattle.pat_checkpoint_spec.specs.text.LineReading.{mailbox_by, message_by, thread_by, with_frame}
use Rattle.pat_checkpoint_text.specs.Gathered.{Grows}
use Rattle.pat_checkpoint_text.proofs.gathering.read_line.Goals as goal

pub returns-in-Some : goal.returns-in-Some
returns-in-Some c = λ lines g.
    let p = program_view c.args.program.now in
    let mailbox : behind (codes "mailbox ") c.args.line.now ≡ Some c.in-Some.more.now = search rules in
    subst (λ o. Grows (mailbox_by p lines c.args.line.now o) c.add_mailbox.new.x c.add_mailbox.result) (sym mailbox) (c.add_mailbox.ensures lines g)

pub returns-in-Some-behind : goal.returns-in-Some-behind
returns-in-Some-behind c = λ lines g.
    let p = program_view c.args.program.now in
    let mailbox : behind (codes "mailbox ") c.args.line.now ≡ None = search rules in
    let message : behind (codes "message ") c.args.line.now ≡ Some c.in-Some-behind.more.now = search rules in
    subst (λ o. Grows (mailbox_by p lines c.args.line.now o) c.add_message.new.x c.add_message.result) (sym mailbox)
    (subst (λ o. Grows (message_by p lines c.args.line.now o) c.add_message.new.x c.add_message.result) (sym message) (c.add_message.ensures lines g))

pub returns-in-Some-behind-2 : goal.returns-in-Some-behind-2
returns-in-Some-behind-2 c = λ lines g.
    let p = program_view c.args.program.now in
    let mailbox : behind (codes "mailbox ") c.args.line.now ≡ None = search rules in
    let message : behind (codes "message ") c.args.line.now ≡ None = search rules in
    let thread : behind (codes "thread ") c.args.line.now ≡ Some c.in-Some-behind-2.more.now = search rules in
    subst (λ o. Grows (mailbox_by p lines c.args.line.now o) c.add_thread.new.x c.add_thread.result) (sym mailbox)
    (subst (λ o. Grows (message_by p lines c.args.line.now o) c.add_thread.new.x c.add_thread.result) (sym message)
    (subst (λ o. Grows (thread_by p lines c.args.line.now o) c.add_thread.new.x c.add_thread.result) (sym thread) (c.add_thread.ensures lines g)))

pub returns-in-Some-behind-3 : goal.returns-in-Some-behind-3
returns-in-Some-behind-3 c = λ lines g.
    let p = program_view c.args.program.now in
    let mailbox : behind (codes "mailbox ") c.args.line.now ≡ None = search rules in
    let message : behind (codes "message ") c.args.line.now ≡ None = search rules in
    let thread : behind (codes "thread ") c.args.line.now ≡ None = search rules in
    let frame : behind (codes "frame ") c.args.line.now ≡ Some c.in-Some-behind-3.more.now = search rules in
    subst (λ o. Grows (mailbox_by p lines c.args.line.now o) c.add_frame.new.x c.add_frame.result) (sym mailbox)
    (subst (λ o. Grows (message_by p lines c.args.line.now o) c.add_frame.new.x c.add_frame.result) (sym message)
    (subst (λ o. Grows (thread_by p lines c.args.line.now o) c.add_frame.new.x c.add_frame.result) (sym thread)
    (subst (λ o. Grows (option_and_then (with_frame p lines) o) c.add_frame.new.x c.add_frame.result) (sym frame) (c.add_frame.ensures lines g))))

pub returns-in-None-behind-3 : goal.returns-in-None-behind-3
returns-in-None-behind-3 c = λ lines g.
    let p = program_view c.args.program.now in
    let mailbox : behind (codes "mailbox ") c.args.line.now ≡ None = search rules in
    let message : behind (codes "message ") c.args.line.now ≡ None = search rules in
    let thread : behind (codes "thread ") c.args.line.now ≡ None = search rules in
    let frame : behind (codes "frame ") c.args.line.now ≡ None = search rules in
    subst (λ o. mailbox_by p lines c.args.line.now o ≡ None) (sym mailbox)
    (subst (λ o. message_by p lines c.args.line.now o ≡ None) (sym message)
    (subst (λ o. thread_by p lines c.args.line.now o ≡ None) (sym thread)
    (subst (λ o. option_and_then (with_frame p lines) o ≡ None) (sym frame) refl)))
