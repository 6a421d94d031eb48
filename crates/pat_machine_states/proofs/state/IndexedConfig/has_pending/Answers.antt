use Rattle.std.proofs.Common.{sym, ap, ◌∙◌}
use Rattle.pat_semantics_spec.specs.Configs.{Config, has_pending}
use Rattle.pat_machine_states.proofs.Keeping.{pending_test, none_test}
use Rattle.pat_machine_states.proofs.Seen.{config_of}
use Rattle.pat_machine_states.proofs.state.IndexedConfig.has_pending.Goals as goal

pub returns-then-is_live : goal.returns-then-is_live
returns-then-is_live c =
    let i = c.self.inside in
    pending_test i.placed i.latest i.mailboxes.mailboxes c.self.invariant c.args.mailbox c.len.result c.len.ensures ∙ ap (λ (d : Config). has_pending c.args.mailbox d.messages) (config_of c.self.view_is)

pub returns-else-is_live : goal.returns-else-is_live
returns-else-is_live c =
    let i = c.self.inside in
    c.if-is_live.false
    ∙ none_test i.placed i.latest i.mailboxes.mailboxes c.self.invariant c.args.mailbox (sym c.is_live.ensures ∙ c.if-is_live.false)
    ∙ ap (λ (d : Config). has_pending c.args.mailbox d.messages) (config_of c.self.view_is)
