use Rattle.std.proofs.Common.{ap, ◌∙◌}
use Rattle.pat_semantics_spec.specs.Programs.{is_among}
use Rattle.pat_semantics_spec.specs.Configs.{Config}
use Rattle.pat_machine_states.proofs.Keeping.{live_test}
use Rattle.pat_machine_states.proofs.Seen.{config_of}
use Rattle.pat_machine_states.proofs.state.IndexedConfig.is_live.Goals as goal

pub returns : goal.returns
returns c =
    let i = c.self.inside in
    c.is_live.ensures ∙ live_test i.placed i.latest i.mailboxes.mailboxes c.self.invariant c.args.mailbox ∙ ap (λ (d : Config). is_among c.args.mailbox d.live) (config_of c.self.view_is)
