-- A thread's state that is set aside, and what stands in its place.
use Rattle.std.specs.Prelude.{◌≡◌, ℕ, suc, ◌≤◌, length, Some}
use Rattle.pat_semantics_spec.specs.Configs.{Config, thread_at, with_thread}
use Rattle.pat_reduce.specs.declared.threads.state.ThreadState.{ThreadState}
use Rattle.pat_reduce.specs.threads.ThreadViews.{thread_view}
use Rattle.pat_machine_threads.specs.declared.asides.Aside.{Aside}
use Rattle.pat_machine_threads.specs.Aside.{aside_view}

-- the thread's state is set aside, another stands in its place, and there is room for the frames of that one and one more
pub record IsAside (old : Config) (t : ℕ) (top : ThreadState) (kept : Aside) (new : Config) : Type 0 where
  pub there : thread_at old t ≡ Some (aside_view kept)
  pub put : new ≡ with_thread old t (thread_view top)
  pub room : suc (length top.frames) ≤ kept.frames.1
