-- A commit whose steps were taken, before it is entered.
use Rattle.std.specs.Prelude.{◌≡◌, ℕ, ◌<◌, List, Option, Some, map, IsTrue, IsFalse, vec_len, vec_capacity}
use Rattle.pat_semantics_spec.specs.Programs.{is_among}
use Rattle.pat_semantics_spec.specs.Configs.{Thread, Message, Config, thread_at, thread_refers}
use Rattle.pat_semantics_spec.specs.Steps.{Act, ActReceive, message_at}
use Rattle.pat_core.specs.Views.{program_view}
use Rattle.pat_reduce.specs.Views.{entry_view}
use Rattle.pat_machine_spec.specs.Commits.{IsCommit}
use Rattle.pat_machine_spec.specs.Lendings.{allowance_of, allowances}
use Rattle.pat_machine_spec.specs.Machines.{MachineInvariant}
use Rattle.pat_machine_spec.specs.Tops.{top_of}
use Rattle.pat_machine_indexes.specs.ready_sets.Wakings.{is_named_by}
use Rattle.pat_machine_indexes.specs.ready_sets.ReadySets.{HasSpace, CanHold, HasRoom}
use Rattle.pat_machine_indexes.specs.ready_sets.Noted.{AreNoted}
use Rattle.pat_machine_steps.specs.wakeups.Naming.{times_in_thread}
use Rattle.pat_machine_steps.specs.wakeups.Counting.{AreCounted}
use Rattle.pat_machine.specs.declared.job.Job.{Job}
use Rattle.pat_machine.specs.declared.parts.Parts.{Parts}
use Rattle.pat_machine.specs.Shown.{places_for}

-- there is room for one more entry, thread and mailbox, and for those that a commit wakes
pub record CanEnter (m : Parts) : Type 0 where
  pub history : vec_len m.history < vec_capacity m.history
  pub out : vec_len m.out < vec_capacity m.out
  pub space : HasSpace m.waits 2
  pub hold : CanHold m.waits 2
  pub room : HasRoom m.waits

-- what the top of the thread, if it is there, names is in the list
abbrev pub ListsTop : Config → (t frames : ℕ) → List ℕ → Type 0
ListsTop c t frames named = (s : Thread) (a : ℕ) → thread_at c t ≡ Some s → 0 < times_in_thread a (top_of frames s) → IsTrue (is_among a named)

-- the steps of the job lead from configuration c to that of the parts, and names are counted there; all else is as it was at c, but
-- for a list of what the thread may have let go
pub record WentFrom (m : Parts) (c : Config) (worker : ℕ) (j : Job) (steps newcomer : ℕ) (act : Option Act) (received : Option Message) : Type 0 where
  pub stands : MachineInvariant (program_view m.code.program) m.budget m.limit c (map entry_view m.history.items) m.left m.out.items
  pub lent : m.lent ≡ allowances m.out.items
  pub noted : AreNoted (program_view m.code.program) c m.waits.awake.numbers.items m.waits.senders.numbers.items m.waits.sleepers.items
  pub out : allowance_of m.out.items j.thread ≡ Some j.allowance
  pub commit : IsCommit (program_view m.code.program) j.allowance m.limit c (record { worker = worker; thread = j.thread; local_steps = steps; shared = act }) m.state.config
  pub places : m.state.places ≡ places_for m.budget m.limit
  pub next : newcomer ≡ c.next_thread
  pub counted : AreCounted m.names.times.items m.state.config
  pub listed : (a : ℕ) → IsTrue (thread_refers a commit.kept) → IsFalse (is_named_by a (thread_at m.state.config j.thread)) → IsTrue (is_among a m.named.items)
  pub brought : (k : ℕ) → act ≡ Some (ActReceive k) → received ≡ message_at c k
