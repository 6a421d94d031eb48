use Rattle.std.proofs.Common.{◌<◌, length, arith, subst}
use Rattle.std.specs.List.{AllByRecursion}
use Rattle.std.specs.Map.{keys_of}
use Rattle.pat_semantics_spec.specs.Orders.{AscendsFrom}
use Rattle.pat_reduce.specs.Views.{threads_view}
use Rattle.pat_machine_threads.specs.table.Entries.{Threads}
use Rattle.pat_machine_threads.proofs.Slots.{ascends, below}
use Rattle.pat_machine_threads.proofs.table.Table.slots.Goals as goal

pub returns-clause-ascends : goal.returns-clause-ascends
returns-clause-ascends c = subst (λ (w : Threads). AscendsFrom 0 (keys_of (threads_view w.entries))) c.self.view_is (ascends 0 0 c.self.inside.slots.items (omega arith))

pub returns-clause-below : goal.returns-clause-below
returns-clause-below c =
    let slots = c.self.inside.slots.items in
    subst (λ (w : Threads). AllByRecursion (λ e. e.0 < w.made) (threads_view w.entries)) c.self.view_is (below 0 (length slots) slots (omega arith))
