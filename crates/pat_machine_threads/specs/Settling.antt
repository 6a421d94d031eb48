-- A thread after local steps of its top.
use Rattle.std.specs.Prelude.{◌≡◌, ℕ, ◌+◌, ◌-◌, ◌<◌, ◌≤◌, ◌⊎◌, [], length, take, Some, None}
use Rattle.pat_semantics_spec.specs.Programs.{Program}
use Rattle.pat_semantics_spec.specs.Configs.{Thread}
use Rattle.pat_semantics_spec.specs.Steps.{local_step}
use Rattle.pat_reduce.specs.threads.ThreadViews.{thread_view}
use Rattle.pat_machine_spec.specs.Commits.{IsLocalRun, locally}
use Rattle.pat_machine_spec.specs.Tops.{below, over, top_of}
use Rattle.pat_machine_threads.specs.declared.settling.Settled.{Settled}

-- the kept thread after the local steps of its top
abbrev pub settled_thread : Thread → Settled → Thread
settled_thread kept s = over (thread_view s.end) (below s.gone kept)

-- it is the kept thread after so many local steps within the allowance; and with steps left, a frame of the top is left, or nothing is below
pub record IsRunOnTop (p : Program) (allowance : ℕ) (kept : Thread) (s : Settled) : Type 0 where
  pub local : IsLocalRun p allowance kept s.steps (settled_thread kept s)
  pub frame : s.steps < allowance → (0 < length (thread_view s.end).frames) ⊎ (below s.gone kept ≡ [])

-- steps within the allowance, taken on so many frames on top of the kept thread
pub record IsBegun (p : Program) (allowance : ℕ) (kept : Thread) (s : Settled) : Type 0 where
  pub within : s.steps ≤ allowance
  pub taken : locally p s.steps (top_of s.gone kept) ≡ Some (thread_view s.end)

-- all steps within the allowance, or as many as there are, taken on so many frames on top of the kept thread
abbrev pub IsRunOn : Program → ℕ → Thread → Settled → Type 0
IsRunOn p allowance kept s = IsLocalRun p allowance (top_of s.gone kept) s.steps (thread_view s.end)

-- further local steps: all that the rest of the allowance allows, or as many as there are
pub record RunsOn (p : Program) (allowance : ℕ) (old new : Settled) : Type 0 where
  pub gone : new.gone ≡ old.gone
  pub more : (k : ℕ) × (new.steps ≡ old.steps + k) × IsLocalRun p (allowance - old.steps) (thread_view old.end) k (thread_view new.end)

-- one frame more of the kept thread is among those on top, and comes below those of the end
pub record Uncovers (kept : Thread) (old new : Settled) : Type 0 where
  pub gone : new.gone ≡ old.gone + 1
  pub steps : new.steps ≡ old.steps
  pub below : thread_view new.end ≡ over (thread_view old.end) (take 1 (below old.gone kept))

-- so many local steps within the allowance; none only where there is none
pub record Advances (p : Program) (allowance : ℕ) (s : Thread) (k : ℕ) (r : Thread) : Type 0 where
  pub taken : locally p k s ≡ Some r
  pub within : k ≤ allowance
  pub none : k ≡ 0 → local_step p r ≡ None
