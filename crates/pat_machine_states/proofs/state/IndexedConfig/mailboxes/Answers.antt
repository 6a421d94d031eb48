use Rattle.std.proofs.Common.{subst}
use Rattle.pat_semantics_spec.specs.Configs.{Config}
use Rattle.pat_machine_states.specs.Boxes.{AreMailboxesOf}
use Rattle.pat_machine_states.proofs.Reading.{mailboxes_of}
use Rattle.pat_machine_states.proofs.Seen.{config_of}
use Rattle.pat_machine_states.proofs.state.IndexedConfig.mailboxes.Goals as goal

pub returns-clause-mailboxes : goal.returns-clause-mailboxes
returns-clause-mailboxes c =
    let i = c.self.inside in
    subst (λ (d : Config). AreMailboxesOf d i.mailboxes.mailboxes) (config_of c.self.view_is) (mailboxes_of i.placed i.latest i.mailboxes.mailboxes c.self.invariant)
