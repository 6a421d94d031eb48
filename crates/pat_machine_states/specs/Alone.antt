-- What is known of a mailbox that may be freed, and of all of them, where threads are asked for their acts.
use Rattle.std.specs.Prelude.{◌≡◌, ℕ, Bool, true, false, Some}
use Rattle.pat_semantics_spec.specs.Programs.{Program, is_among}
use Rattle.pat_semantics_spec.specs.Configs.{Thread, Config, thread_at, has_pending, is_reached_by_none_but}
use Rattle.pat_reduce.specs.threads.ThreadActs.{Guarding}
use Rattle.pat_machine_indexes.specs.declared.refcounts.freed.Counted.{Counted}
use Rattle.pat_machine_indexes.specs.refcounts.Counting.{TellsAlone}
use Rattle.pat_machine_indexes.specs.refcounts.Telling.{says_alone}

-- the answer says whether nothing but thread t reaches the mailbox, where that is live and has no message
abbrev pub IsReachedAlone : Config → (t a : ℕ) → Bool → Type 0
IsReachedAlone c t a alone = is_among a c.live ≡ true → has_pending a c.messages ≡ false → is_reached_by_none_but c a t ≡ alone

-- and so it does of the guard's mailbox, where the guard has a clause for freeing it
abbrev pub GuardsAlone : Config → (t : ℕ) → Guarding → Bool → Type 0
GuardsAlone c t g alone = (n : ℕ) → g.free ≡ Some n → IsReachedAlone c t g.mailbox alone

-- and so the counts do of what the thread may free, if it is there
abbrev pub StandsAlone : Program → Config → (t : ℕ) → Counted → Type 0
StandsAlone p c t counted = (s : Thread) → thread_at c t ≡ Some s → TellsAlone p c t s (says_alone p counted s)
