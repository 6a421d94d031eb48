-- Threads that are about to send.
use Rattle.std.specs.Prelude.{◌≡◌, ℕ, Bool, min, List, Option, Some, None, is_some, IsTrue, ◌⊎◌}
use Rattle.pat_semantics_spec.specs.Programs.{Program, is_among}
use Rattle.pat_semantics_spec.specs.Configs.{Thread, Config, thread_at}
use Rattle.pat_semantics_spec.specs.Runs.{can_step_thread}
use Rattle.pat_machine_laws.specs.wakeups.Wakings.{target}

-- whether the thread stands at a send to a mailbox
abbrev pub is_about_to_send : Program → Thread → Bool
is_about_to_send p s = is_some (target p s)

-- thread u is there and does
abbrev pub IsAboutToSend : Program → Config → ℕ → Type 0
IsAboutToSend p c u = (s : Thread) × (thread_at c u ≡ Some s) × IsTrue (is_about_to_send p s)

-- each thread that can step is among the first numbers, or is about to send and among the second
abbrev pub AreCandidates : Program → Config → (others senders : List ℕ) → Type 0
AreCandidates p c others senders = (u : ℕ) → IsTrue (can_step_thread p c u) → IsTrue (is_among u others) ⊎ (IsTrue (is_among u senders) × IsAboutToSend p c u)

-- the lesser of two numbers, where both are there
abbrev pub lesser : Option ℕ → Option ℕ → Option ℕ
lesser None o = o
lesser (Some m) None = Some m
lesser (Some m) (Some n) = Some (min m n)
