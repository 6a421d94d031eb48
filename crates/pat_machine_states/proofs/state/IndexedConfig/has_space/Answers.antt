use Rattle.std.proofs.Common.{ap, ◌∙◌}
use Rattle.std.specs.Prelude.{nat_lt, length}
use Rattle.pat_semantics_spec.specs.Configs.{Config}
use Rattle.pat_machine_states.proofs.Keeping.{counted}
use Rattle.pat_machine_states.proofs.Seen.{config_of}
use Rattle.pat_machine_states.proofs.state.IndexedConfig.has_space.Goals as goal

pub returns : goal.returns
returns c =
    let i = c.self.inside in
    ap (λ n. nat_lt n c.args.limit) (c.pending.ensures ∙ counted i.placed i.latest i.mailboxes.mailboxes c.self.invariant ∙ ap (λ (d : Config). length d.messages) (config_of c.self.view_is))
