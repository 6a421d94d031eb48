use Rattle.std.proofs.Common.{ap}
use Rattle.pat_core.specs.Views.{program_view}
use Rattle.pat_machine_indexes.specs.messages.Mailboxes.{Contents}
use Rattle.pat_machine_states.proofs.Keeping.{started}
use Rattle.pat_machine_states.proofs.state.IndexedConfig.start.Goals as goal

pub invariant_of-result : goal.invariant_of-result
invariant_of-result c = started (program_view c.args.code.now.program) c.in_ok-placed.placed c.in_ok-mailboxes.mailboxes.mailboxes c.in_ok-placed.ensures (ap (λ (m : Contents). m.mailboxes) c.in_ok-mailboxes.ensures)
