-- Laws of open steps, of turns, of commits, of what a machine keeps, and of histories that are refused.
use Rattle.std.specs.Prelude.{◌≡◌, ℕ, ◌+◌, ◌-◌, ◌<◌, ◌≤◌, List, [], length, Option, Some, None, slice_set, IsTrue, ◌↔◌, ◌⊎◌}
use Rattle.pat_semantics_spec.specs.Programs.{Program}
use Rattle.pat_semantics_spec.specs.WellFormed.{WellFormed}
use Rattle.pat_semantics_spec.specs.Configs.{Frame, Thread, Config, start, thread_at, with_thread}
use Rattle.pat_semantics_spec.specs.Orders.{IsOrdered}
use Rattle.pat_semantics_spec.specs.Steps.{Act}
use Rattle.pat_semantics_spec.specs.Runs.{Entry, IsSharedOrNone, run_from, entry_steps, replay_from}
use Rattle.pat_machine_spec.specs.Typings.{IsTypable}
use Rattle.pat_machine_spec.specs.Opens.{IsOpen, IsStill, can_go_on}
use Rattle.pat_machine_spec.specs.Commits.{IsLocalRun, Shares, IsCommit, noted}
use Rattle.pat_machine_spec.specs.Tops.{top_of, below, over, with_below}
use Rattle.pat_machine_spec.specs.Lendings.{Out, all_in, allowance_of, allowances, committed_out}
use Rattle.pat_machine_spec.specs.Turns.{IsReady, IsTurn, turn}
use Rattle.pat_machine_spec.specs.Refusals.{IsRefusedAt}
use Rattle.pat_machine_spec.specs.Machines.{MachineInvariant, HasRoom}
use Rattle.pat_limits.specs.Limits.{most_steps}

-- the test of a thread says yes exactly where a step of it is open
abbrev pub OpenTestIsExact : Type 0
OpenTestIsExact =
    (p : Program) (c : Config) (limit t : ℕ) → IsTrue (can_go_on p c limit t) ↔ ((a : Act) × IsOpen p c limit (record { thread = t; act = a }))

-- in order, the thread that is found is the one whose turn it is
abbrev pub FoundIsTurn : Type 0
FoundIsTurn =
    (p : Program) (c : Config) (limit : ℕ) (out : Out) (last : Option ℕ) (t : ℕ) → IsOrdered c → turn p c limit out last ≡ Some t → IsTurn p c limit out last t

-- and where none is found, none is ready
abbrev pub NoneFoundIsNone : Type 0
NoneFoundIsNone =
    (p : Program) (c : Config) (limit : ℕ) (out : Out) (last : Option ℕ) → turn p c limit out last ≡ None → (t : ℕ) → IsReady p c limit out t → ⊥

-- a commit takes just the steps of its entry, within the allowance, and its entry may stand in a history
abbrev pub CommitRuns : Type 0
CommitRuns =
    (p : Program) (allowance limit : ℕ) (c d : Config) (e : Entry) → IsCommit p allowance limit c e d → (run_from p c (entry_steps e) ≡ Some d) × (length (entry_steps e) ≤ allowance) × IsSharedOrNone e.shared

-- its entry has no step exactly where no step of its thread was open
abbrev pub IdleCommitIsStill : Type 0
IdleCommitIsStill =
    (p : Program) (allowance limit : ℕ) (c d : Config) (e : Entry) → IsCommit p allowance limit c e d → 0 < allowance → (length (entry_steps e) ≡ 0) ↔ IsStill p c limit e.thread

-- a job may run on the top of its thread, with a frame for each step of its allowance: what lies below stays below
abbrev pub TopRuns : Type 0
TopRuns = (p : Program) (allowance : ℕ) (s : Thread) (k : ℕ) (r : Thread) → IsLocalRun p allowance (top_of allowance s) k r → IsLocalRun p allowance s k (over r (below allowance s))

-- where a thread has a frame, or nothing is put below it, its shared step is the same whatever lies below
abbrev pub SharesOnTop : Type 0
SharesOnTop =
    (p : Program) (limit : ℕ) (c d : Config) (t : ℕ) (s : Thread) (rest : List Frame) (a : Option Act) → thread_at c t ≡ Some s → (0 < length s.frames) ⊎ (rest ≡ []) → Shares p limit c t a d
    → Shares p limit (with_thread c t (over s rest)) t a (with_below d t rest)

-- where steps are left of the allowance, the run on the top leaves a frame, or nothing was below
abbrev pub TopKeepsFrame : Type 0
TopKeepsFrame =
    (p : Program) (allowance : ℕ) (s : Thread) (k : ℕ) (r : Thread) → IsLocalRun p allowance (top_of allowance s) k r → k < allowance → (0 < length r.frames) ⊎ (below allowance s ≡ [])

-- what a machine keeps is true at the start of a typable program
abbrev pub StartKeeps : Type 0
StartKeeps =
    (p : Program) (budget limit : ℕ) → WellFormed p → IsTypable p → budget ≤ most_steps → 0 < limit → MachineInvariant p budget limit (start p) [] budget (all_in (start p).next_thread)

-- it stays true where a ready thread is taken,
abbrev pub TakeKeeps : Type 0
TakeKeeps =
    (p : Program) (budget limit : ℕ) (c : Config) (es : List Entry) (left : ℕ) (out : Out) (t n : ℕ) → MachineInvariant p budget limit c es left out → IsReady p c limit out t → 0 < n → n ≤ left
    → MachineInvariant p budget limit c es (left - n) (slice_set out t (Some n))

-- where a thread is given back,
abbrev pub GiveBackKeeps : Type 0
GiveBackKeeps =
    (p : Program) (budget limit : ℕ) (c : Config) (es : List Entry) (left : ℕ) (out : Out) (t n : ℕ) → MachineInvariant p budget limit c es left out → allowance_of out t ≡ Some n
    → MachineInvariant p budget limit c es (left + n) (slice_set out t None)

-- where all are,
abbrev pub GiveAllBackKeeps : Type 0
GiveAllBackKeeps =
    (p : Program) (budget limit : ℕ) (c : Config) (es : List Entry) (left : ℕ) (out : Out) → MachineInvariant p budget limit c es left out → MachineInvariant p budget limit c es (left + allowances out) (all_in (length out))

-- and where a thread that is out is committed
abbrev pub CommitKeeps : Type 0
CommitKeeps =
    (p : Program) (budget limit allowance : ℕ) (c d : Config) (es : List Entry) (left : ℕ) (out : Out) (e : Entry)
    → MachineInvariant p budget limit c es left out → allowance_of out e.thread ≡ Some allowance → IsCommit p allowance limit c e d
    → MachineInvariant p budget limit d (noted es e) (left + (allowance - length (entry_steps e))) (committed_out out e.thread e.shared)

-- and there is always a further number of each kind
abbrev pub NumbersAreLeft : Type 0
NumbersAreLeft =
    (p : Program) (budget limit : ℕ) (c : Config) (es : List Entry) (left : ℕ) (out : Out) → MachineInvariant p budget limit c es left out → HasRoom c

-- a history has no replay exactly where an entry of it is refused
abbrev pub NoReplayIsRefused : Type 0
NoReplayIsRefused = (p : Program) (c : Config) (es : List Entry) → (replay_from p c es ≡ None) ↔ ((i : ℕ) × IsRefusedAt p c es i)

-- and that is one entry
abbrev pub OneEntryIsRefused : Type 0
OneEntryIsRefused = (p : Program) (c : Config) (es : List Entry) (i j : ℕ) → IsRefusedAt p c es i → IsRefusedAt p c es j → i ≡ j
