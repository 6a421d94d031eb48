-- The names that a thread let go, listed from its old top.
use Rattle.std.proofs.Common.{◌≡◌, ℕ, ◌<◌, true, false, List, Option, Some}
use Rattle.pat_semantics_spec.specs.Programs.{Program, is_among}
use Rattle.pat_semantics_spec.specs.Configs.{Thread, Config, thread_at, with_thread, thread_refers}
use Rattle.pat_semantics_spec.specs.Steps.{Act}
use Rattle.pat_semantics_spec.specs.Runs.{IsSharedOrNone, run_from, shared_step}
use Rattle.pat_machine_spec.specs.Tops.{top_of, below, over}
use Rattle.pat_machine_indexes.specs.ready_sets.Wakings.{is_named_by}
use Rattle.pat_machine_indexes.proofs.WakeupsTops.{top_lets_go}
use Rattle.pat_machine_laws.specs.refcounts.Naming.{times_in_thread}
use Rattle.pat_machine_laws.proofs.Tells.{thread_tells}

-- where the names of the old top are listed, each name that the thread let go is, though what lies below the top isn't looked at
pub listed_from_top : (p : Program) (c d : Config) (t n : ℕ) (kept end : Thread) (act : Option Act) (named : List ℕ) → thread_at c t ≡ Some kept → IsSharedOrNone act
    → run_from p (with_thread c t (over end (below n kept))) (shared_step t act) ≡ Some d → ((a : ℕ) → 0 < times_in_thread a (top_of n kept) → is_among a named ≡ true)
    → (a : ℕ) → thread_refers a kept ≡ true → is_named_by a (thread_at d t) ≡ false → is_among a named ≡ true
listed_from_top p c d t n kept end act named there shared run listed a had gone =
    listed a ((thread_tells a (top_of n kept)).some (top_lets_go p c d t n kept end act a there shared run had gone))
