use Rattle.std.proofs.Common.{◌≡◌, Some, sym, ap, subst}
use Rattle.pat_semantics_spec.specs.Configs.{thread_at}
use Rattle.pat_semantics_spec.specs.Steps.{ActReceive, message_at, redex, step}
use Rattle.pat_core.specs.Views.{program_view}
use Rattle.pat_reduce.specs.threads.ThreadViews.{control_view, message_view, thread_view}
use Rattle.pat_machine_indexes.specs.messages.Mailboxes.{Contents}
use Rattle.pat_machine_states.specs.Boxes.{state_view}
use Rattle.pat_machine_indexes.proofs.Delivering.{live_by, taken_at}
use Rattle.pat_machine_states.proofs.Keeping.{receive_done, received_is}
use Rattle.pat_machine_states.proofs.Seen.{config_of}
use Rattle.pat_machine_states.proofs.state.IndexedConfig.receive.Goals as goal

pub take-message-requires-clause-live : goal.take-message-requires-clause-live
take-message-requires-clause-live c = let own = c.in-Ok.ensures.ok in live_by c.self.inside.mailboxes.mailboxes c.in-Ok.mailbox own.0 own.1.message own.1.there

pub take-message-requires-clause-there : goal.take-message-requires-clause-there
take-message-requires-clause-there c = let own = c.in-Ok.ensures.ok in (own.0, own.2)

pub go_on-requires : goal.go_on-requires
go_on-requires c = (thread_view c.in-Some.state.now, sym c.in-Some.ensures)

pub invariant_of-self : goal.invariant_of-self
invariant_of-self c =
    let i = c.self.inside in
    let p = program_view c.args.code.now.program in
    let t = c.args.thread in
    let s = thread_view c.in-Some.state.now in
    let there : thread_at i.placed t ≡ Some s = sym c.in-Some.ensures in
    let own = c.in-Ok.ensures.ok in
    let took = c.take-message.ensures.rest in
    let delivered = taken_at i.mailboxes.mailboxes p (redex p s.control) c.args.number c.in-Ok.mailbox own.0 (control_view c.in-Ok.control) own.1 took.0 c.take-message.result took.1 c.take-message.ensures.number in
    (receive_done p i.placed i.latest i.mailboxes.mailboxes c.self.invariant t c.args.number s there c.in-Ok.mailbox took.0 (control_view c.in-Ok.control) delivered c.go_on.new.self (c.go_on.ensures s there) c.take-message.new.self.mailboxes (ap (λ (m : Contents). m.mailboxes) took.2)).1

pub returns-in-Ok-clause-step : goal.returns-in-Ok-clause-step
returns-in-Ok-clause-step c =
    let i = c.self.inside in
    let p = program_view c.args.code.now.program in
    let t = c.args.thread in
    let s = thread_view c.in-Some.state.now in
    let there : thread_at i.placed t ≡ Some s = sym c.in-Some.ensures in
    let own = c.in-Ok.ensures.ok in
    let took = c.take-message.ensures.rest in
    let delivered = taken_at i.mailboxes.mailboxes p (redex p s.control) c.args.number c.in-Ok.mailbox own.0 (control_view c.in-Ok.control) own.1 took.0 c.take-message.result took.1 c.take-message.ensures.number in
    subst (λ d. step p d (record { thread = t; act = ActReceive c.args.number }) ≡ Some (state_view c.go_on.new.self c.take-message.new.self.mailboxes)) (config_of c.self.view_is)
    (receive_done p i.placed i.latest i.mailboxes.mailboxes c.self.invariant t c.args.number s there c.in-Ok.mailbox took.0 (control_view c.in-Ok.control) delivered c.go_on.new.self (c.go_on.ensures s there) c.take-message.new.self.mailboxes (ap (λ (m : Contents). m.mailboxes) took.2)).0

pub returns-in-Ok-clause-message : goal.returns-in-Ok-clause-message
returns-in-Ok-clause-message c =
    let i = c.self.inside in
    let p = program_view c.args.code.now.program in
    let t = c.args.thread in
    let s = thread_view c.in-Some.state.now in
    let there : thread_at i.placed t ≡ Some s = sym c.in-Some.ensures in
    let own = c.in-Ok.ensures.ok in
    let took = c.take-message.ensures.rest in
    let delivered = taken_at i.mailboxes.mailboxes p (redex p s.control) c.args.number c.in-Ok.mailbox own.0 (control_view c.in-Ok.control) own.1 took.0 c.take-message.result took.1 c.take-message.ensures.number in
    subst (λ d. message_at d c.args.number ≡ Some (message_view c.take-message.result)) (config_of c.self.view_is)
    (received_is i.placed i.latest i.mailboxes.mailboxes c.self.invariant c.in-Ok.mailbox took.0 c.args.number delivered.message c.take-message.result delivered.there delivered.numbered took.1)
