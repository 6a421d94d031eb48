-- Where a thread stands in the list of threads.
use Rattle.std.specs.Prelude.{◌≡◌, ℕ, ◌<◌, nat_eq, List, length, Some, slice_get, slice_set, remove}
use Rattle.std.specs.Map.{lookup, set_value, remove_entry}
use Rattle.pat_reduce.specs.declared.threads.state.ThreadState.{ThreadState}
use Rattle.pat_reduce.specs.threads.ThreadViews.{thread_view}
use Rattle.pat_reduce.specs.Views.{threads_view}

-- the thread stands at this place, before any other of its number
pub record IsPlace (threads : List (ℕ × ThreadState)) (t i : ℕ) : Type 0 where
  pub within : i < length threads
  pub state : (e : ℕ × ThreadState) → slice_get threads i ≡ Some e → (e.0 ≡ t) × (lookup (nat_eq t) (threads_view threads) ≡ Some (thread_view e.1))
  pub changed : (s : ThreadState) → set_value (nat_eq t) (threads_view threads) (thread_view s) ≡ threads_view (slice_set threads i (t, s))
  pub gone : remove_entry (nat_eq t) (threads_view threads) ≡ threads_view (remove threads i)
