use Rattle.std.proofs.Common.{length, sym, ap, ◌∙◌, arith}
use Rattle.std.specs.Prelude.{option_map}
use Rattle.pat_semantics_spec.specs.Configs.{Config}
use Rattle.pat_reduce.specs.threads.ThreadViews.{message_view}
use Rattle.pat_machine_indexes.proofs.Boxed.{none_pending}
use Rattle.pat_machine_states.proofs.Awaiting.{some_there, last_is}
use Rattle.pat_machine_states.proofs.Seen.{config_of}
use Rattle.pat_machine_states.proofs.state.IndexedConfig.last_message.Goals as goal

pub returns-then-not-is_live : goal.returns-then-not-is_live
returns-then-not-is_live c ms m last next =
    let i = c.self.inside in
    let b = c.in_ok-mailbox.mailbox in
    let some = some_there i.placed i.latest i.mailboxes.mailboxes c.self.invariant ms m (ap (λ (d : Config). d.messages) (config_of c.self.view_is) ∙ last) (next ∙ sym (ap (λ (d : Config). d.next_message) (config_of c.self.view_is))) b c.in_ok-mailbox.was in
    let none = ap length (none_pending i.mailboxes.mailboxes b (sym c.is_live.ensures ∙ c.if-not-is_live.true)) in
    absurd (omega arith)

pub returns : goal.returns
returns c ms m last next =
    let i = c.self.inside in
    let b = c.in_ok-mailbox.mailbox in
    ap (option_map message_view) c.last.ensures
    ∙ last_is i.placed i.latest i.mailboxes.mailboxes c.self.invariant ms m (ap (λ (d : Config). d.messages) (config_of c.self.view_is) ∙ last) (next ∙ sym (ap (λ (d : Config). d.next_message) (config_of c.self.view_is))) b c.in_ok-mailbox.was
