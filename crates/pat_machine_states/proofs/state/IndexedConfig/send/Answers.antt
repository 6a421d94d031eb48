use Rattle.std.proofs.Common.{◌≡◌, ◌<◌, Some, Err, refl, length, sym, ap, ◌∙◌, subst, ℕ}
use Rattle.pat_semantics_spec.specs.Configs.{Config}
use Rattle.pat_semantics_spec.specs.Orders.{IsOrdered}
use Rattle.pat_semantics_spec.specs.Steps.{ActSend, step}
use Rattle.pat_core.specs.Views.{program_view}
use Rattle.pat_reduce_values.specs.Results.{StepGives}
use Rattle.pat_machine_indexes.specs.messages.Mailboxes.{Contents}
use Rattle.pat_machine_states.specs.Boxes.{state_view}
use Rattle.pat_machine_states.specs.Stepping.{SendsToLive}
use Rattle.pat_machine_states.proofs.Keeping.{counted, mailbox_live, last_there, send_done, send_refused}
use Rattle.pat_machine_states.proofs.Seen.{config_of, places_of}
use Rattle.pat_machine_states.proofs.state.IndexedConfig.send.Goals as goal

pub send-requires-in-Ok-clause-room : goal.send-requires-in-Ok-clause-room
send-requires-in-Ok-clause-room c =
    let i = c.self.inside in
    let all = counted i.placed i.latest i.mailboxes.mailboxes c.self.invariant ∙ ap (λ (d : Config). length d.messages) (config_of c.self.view_is) in
    subst (λ (n : ℕ). n < i.mailboxes.room) (sym all) (subst (λ (n : ℕ). length c.args.self.now.config.messages < n) (sym (places_of c.self.view_is)) c.requires.place)

pub send-requires-in-Ok-clause-live : goal.send-requires-in-Ok-clause-live
send-requires-in-Ok-clause-live c =
    let i = c.self.inside in
    let m = c.in-Ok.message in
    let ordered = subst IsOrdered (sym (config_of c.self.view_is)) c.requires.ordered in
    let live = subst (λ d. SendsToLive (program_view c.args.code.now.program) d c.args.thread) (sym (config_of c.self.view_is)) c.requires.live in
    mailbox_live (program_view c.args.code.now.program) i.placed i.latest i.mailboxes.mailboxes c.self.invariant c.args.thread m c.send.new.self c.in-Ok.ensures ordered live

pub send-requires-in-Ok-clause-last : goal.send-requires-in-Ok-clause-last
send-requires-in-Ok-clause-last c =
    let i = c.self.inside in
    let m = c.in-Ok.message in
    let ordered = subst IsOrdered (sym (config_of c.self.view_is)) c.requires.ordered in
    let live = subst (λ d. SendsToLive (program_view c.args.code.now.program) d c.args.thread) (sym (config_of c.self.view_is)) c.requires.live in
    last_there (program_view c.args.code.now.program) i.placed i.latest i.mailboxes.mailboxes c.self.invariant c.args.thread m c.send.new.self c.in-Ok.ensures ordered live

pub invariant_of-self : goal.invariant_of-self
invariant_of-self c =
    let i = c.self.inside in
    let m = c.in-Ok.message in
    let ordered = subst IsOrdered (sym (config_of c.self.view_is)) c.requires.ordered in
    let live = subst (λ d. SendsToLive (program_view c.args.code.now.program) d c.args.thread) (sym (config_of c.self.view_is)) c.requires.live in
    let grown = ap (λ (x : Contents). x.mailboxes) c.send-in-Ok.ensures in
    (send_done (program_view c.args.code.now.program) i.placed i.latest i.mailboxes.mailboxes c.self.invariant c.args.thread m c.send.new.self c.in-Ok.ensures ordered live c.send-in-Ok.new.self.mailboxes grown).1

pub returns-in-Ok-clause-step : goal.returns-in-Ok-clause-step
returns-in-Ok-clause-step c =
    let i = c.self.inside in
    let p = program_view c.args.code.now.program in
    let m = c.in-Ok.message in
    let ordered = subst IsOrdered (sym (config_of c.self.view_is)) c.requires.ordered in
    let live = subst (λ d. SendsToLive (program_view c.args.code.now.program) d c.args.thread) (sym (config_of c.self.view_is)) c.requires.live in
    let grown = ap (λ (x : Contents). x.mailboxes) c.send-in-Ok.ensures in
    subst (λ d. step p d (record { thread = c.args.thread; act = ActSend }) ≡ Some (state_view c.send.new.self c.send-in-Ok.new.self.mailboxes)) (config_of c.self.view_is)
    (send_done p i.placed i.latest i.mailboxes.mailboxes c.self.invariant c.args.thread m c.send.new.self c.in-Ok.ensures ordered live c.send-in-Ok.new.self.mailboxes grown).0

pub returns-in-Err-clause-step : goal.returns-in-Err-clause-step
returns-in-Err-clause-step c =
    let i = c.self.inside in
    let p = program_view c.args.code.now.program in
    subst (λ d. StepGives (λ x. x) (step p d (record { thread = c.args.thread; act = ActSend })) d (state_view c.send.new.self i.mailboxes.mailboxes) (Err c.in-Err.error)) (config_of c.self.view_is)
    (send_refused p i.placed i.latest i.mailboxes.mailboxes c.self.invariant c.args.thread c.send.new.self i.mailboxes.mailboxes refl c.in-Err.error c.in-Err.ensures).0
