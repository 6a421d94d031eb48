use Rattle.std.proofs.Common.{sym, ap, ◌∙◌}
use Rattle.pat_semantics_spec.specs.Configs.{Config}
use Rattle.pat_core.specs.Views.{program_view}
use Rattle.pat_machine_states.proofs.Prospected.{other_opens, sender_opens, closed, other_steps, sender_steps, none_steps, not_empty}
use Rattle.pat_machine_states.proofs.Seen.{config_of}
use Rattle.pat_machine_states.proofs.state.IndexedConfig.prospect.Goals as goal

pub returns-then-has_open : goal.returns-then-has_open
returns-then-has_open c =
    other_opens (program_view c.args.code.now.program) c.args.self.now.config c.args.limit c.args.others.now c.args.senders.now c.requires.candidates (sym c.has_open.ensures ∙ c.if-has_open.true)

pub returns-then-may_send : goal.returns-then-may_send
returns-then-may_send c =
    sender_opens (program_view c.args.code.now.program) c.args.self.now.config c.args.limit c.args.others.now c.args.senders.now c.requires.candidates (sym c.may_send.ensures ∙ c.if-may_send.true)

pub returns-then-has_enabled : goal.returns-then-has_enabled
returns-then-has_enabled c =
    let p = program_view c.args.code.now.program in
    let d = c.args.self.now.config in (
      other_steps p d c.args.limit c.args.others.now c.args.senders.now c.requires.candidates (sym c.has_enabled.ensures ∙ c.if-has_enabled.true),
      closed p d c.args.limit c.args.others.now c.args.senders.now c.requires.candidates (sym c.has_open.ensures ∙ c.if-has_open.false) (sym c.may_send.ensures ∙ c.if-may_send.false),
    )

pub returns-then-has_enabled-2 : goal.returns-then-has_enabled-2
returns-then-has_enabled-2 c =
    let p = program_view c.args.code.now.program in
    let d = c.args.self.now.config in (
      sender_steps p d c.args.limit c.args.others.now c.args.senders.now c.requires.candidates (sym c.has_enabled-2.ensures ∙ c.if-has_enabled-2.true),
      closed p d c.args.limit c.args.others.now c.args.senders.now c.requires.candidates (sym c.has_open.ensures ∙ c.if-has_open.false) (sym c.may_send.ensures ∙ c.if-may_send.false),
    )

pub returns-else-has_enabled-2 : goal.returns-else-has_enabled-2
returns-else-has_enabled-2 c =
    let p = program_view c.args.code.now.program in
    let d = c.args.self.now.config in (
      not_empty c.self.inside.placed.threads d.threads (ap (λ (x : Config). x.threads) (config_of c.self.view_is)) (sym c.is_over.ensures ∙ c.if-is_over.false),
      none_steps p d c.args.limit c.args.others.now c.args.senders.now c.requires.candidates (sym c.has_enabled.ensures ∙ c.if-has_enabled.false) (sym c.has_enabled-2.ensures ∙ c.if-has_enabled-2.false),
    )
