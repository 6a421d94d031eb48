-- Searches for a thread.
use Rattle.std.specs.Prelude.{ℕ, Bool, List, drop, Option, option_map, find}
use Rattle.pat_reduce.specs.declared.threads.state.ThreadState.{ThreadState}
use Rattle.pat_reduce.specs.Views.{threads_view}

-- the first thread that passes the test, of those from a place on
abbrev pub first_from : (ℕ → Bool) → List (ℕ × ThreadState) → ℕ → Option ℕ
first_from test threads i = option_map (λ e. e.0) (find (λ e. test e.0) (threads_view (drop i threads)))
