use Rattle.std.proofs.Common.{subst}
use Rattle.pat_machine_states.specs.Boxes.{IsLatest}
use Rattle.pat_machine_states.proofs.Awaiting.{latest_of}
use Rattle.pat_machine_states.proofs.Seen.{config_of}
use Rattle.pat_machine_states.proofs.state.IndexedConfig.last_mailbox.Goals as goal

pub returns : goal.returns
returns c ms m last next = latest_of c.self.inside.latest c.args.self.now.config ms m (subst (IsLatest c.self.inside.latest) (config_of c.self.view_is) c.self.invariant.boxes.last) last next
