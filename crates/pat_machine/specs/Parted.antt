-- The parts of a machine, as contracts see it.
use Rattle.std.specs.Prelude.{◌≡◌, map}
use Rattle.pat_core.specs.Views.{program_view}
use Rattle.pat_reduce.specs.Views.{entry_view}
use Rattle.pat_machine_spec.specs.Lendings.{allowances}
use Rattle.pat_machine_spec.specs.Machines.{MachineInvariant}
use Rattle.pat_machine_indexes.specs.ready_sets.Noted.{AreNoted}
use Rattle.pat_machine_steps.specs.wakeups.Counting.{AreCounted}
use Rattle.pat_machine.specs.declared.parts.Parts.{Parts}
use Rattle.pat_machine.specs.Shown.{Shown, places_for}

abbrev pub shown : Parts → Shown
shown m = record {
  named = record { program = m.code.program; budget = m.budget; limit = m.limit };
  config = m.state.config;
  history = m.history.items;
  left = m.left;
  out = m.out.items;
  last = m.last;
}

-- what is always true of them
pub record IsKept (m : Parts) : Type 0 where
  pub stands : MachineInvariant (program_view m.code.program) m.budget m.limit m.state.config (map entry_view m.history.items) m.left m.out.items
  pub lent : m.lent ≡ allowances m.out.items
  pub places : m.state.places ≡ places_for m.budget m.limit
  pub counted : AreCounted m.names.times.items m.state.config
  pub noted : AreNoted (program_view m.code.program) m.state.config m.waits.awake.numbers.items m.waits.senders.numbers.items m.waits.sleepers.items
