-- What the calls of a machine give.
use Rattle.std.specs.Prelude.{◌≡◌, ℕ, ◌+◌, ◌-◌, ◌<◌, min, length, Option, Some, None, option_map, Result, Ok, Err, slice_set, ◌↔◌, ◌⊎◌}
use Rattle.pat_semantics_spec.specs.Configs.{Thread, thread_at}
use Rattle.pat_semantics_spec.specs.Runs.{Outcome, EndDone, EndWaiting, EndFull, EndBudget, step_count, outcome}
use Rattle.pat_reduce.specs.declared.threads.state.ThreadState.{ThreadState}
use Rattle.pat_reduce.specs.threads.ThreadViews.{thread_view}
use Rattle.pat_reduce.specs.Views.{act_view, entry_view}
use Rattle.pat_machine_spec.specs.Opens.{IsStill}
use Rattle.pat_machine_spec.specs.Commits.{IsCommit}
use Rattle.pat_machine_spec.specs.Tops.{top_of}
use Rattle.pat_machine_spec.specs.Lendings.{allowance_of, allowances, all_in, committed_out}
use Rattle.pat_machine_spec.specs.Lendings.{NoneOut, SomeOut}
use Rattle.pat_machine_spec.specs.Turns.{IsReady, IsAtRest, IsTurn}
use Rattle.pat_machine.specs.declared.job.Job.{Job}
use Rattle.pat_machine.specs.declared.job.Receipt.{Receipt}
use Rattle.pat_machine.specs.declared.job.Outcome.{Outcome as CodeOutcome}
use Rattle.pat_machine.specs.declared.job.Outcome.TheVariants as ending
use Rattle.pat_machine.specs.declared.job.StateRefused.{StateRefused}
use Rattle.pat_machine.specs.declared.job.StateRefused.TheVariants as state
use Rattle.pat_machine.specs.declared.job.CommitRefused.{CommitRefused}
use Rattle.pat_machine.specs.declared.job.CommitRefused.TheVariants as commit
use Rattle.pat_machine.specs.declared.job.TakeRefused.{TakeRefused}
use Rattle.pat_machine.specs.declared.job.TakeRefused.TheVariants as refusal
use Rattle.pat_machine.specs.Shown.{Shown, program_of, entries_of, steps_in, noted_in, place_of}

-- the job is one that was handed out: its thread's allowance is noted, and is the job's
abbrev pub IsLent : Shown → Job → Type 0
IsLent m j = allowance_of m.out j.thread ≡ Some j.allowance

-- a job for the thread could be taken: none is out, and a step is open to it
abbrev pub MayTake : Shown → ℕ → Type 0
MayTake m t = IsReady (program_of m) m.config m.named.limit m.out t

-- nothing can be taken
abbrev pub Rests : Shown → Type 0
Rests m = IsAtRest (program_of m) m.config m.named.limit m.out m.left

-- the job leaves with at most 256 of the steps left, and is out then
pub record Lends (old : Shown) (j : Job) (new : Shown) : Type 0 where
  pub ready : MayTake old j.thread
  pub some : 0 < old.left
  pub allowance : j.allowance ≡ min old.left 256
  pub changes : new ≡ record old { left = old.left - j.allowance; out = slice_set old.out j.thread (Some j.allowance); last = Some j.thread }
  pub out : IsLent new j

-- it is the thread's turn
abbrev pub HasTurn : Shown → ℕ → Type 0
HasTurn m t = IsTurn (program_of m) m.config m.named.limit m.out m.last t

-- nothing can be taken, and nothing changes; or the job of the thread whose turn it is leaves
abbrev pub TakeGives : Shown → Option Job → Shown → Type 0
TakeGives old None new = Rests old × (new ≡ old)
TakeGives old (Some j) new = HasTurn old j.thread × Lends old j new

-- the thread isn't ready; or it is and no step is left; or its job leaves
abbrev pub TakeThreadGives : Shown → ℕ → Result Job TakeRefused → Shown → Type 0
TakeThreadGives old t (Ok j) new = (j.thread ≡ t) × Lends old j new
TakeThreadGives old t (Err refusal.NotReady) new = (MayTake old t → ⊥) × (new ≡ old)
TakeThreadGives old t (Err refusal.Spent) new = MayTake old t × (old.left ≡ 0) × (new ≡ old)

-- the top of the thread's state as the machine keeps it, with at most a frame for each step of the allowance;
-- a job that wasn't handed out has none, and memory may run out
abbrev pub StateGives : Shown → Job → Result ThreadState StateRefused → Type 0
StateGives m j (Ok s) = IsLent m j × ((kept : Thread) × (thread_at m.config j.thread ≡ Some kept) × (thread_view s ≡ top_of j.allowance kept))
StateGives m j (Err state.NotOut) = IsLent m j → ⊥
StateGives m j (Err state.NoMemory) = IsLent m j

-- the entry is the commit of the job upon the state that the machine keeps; what it changes is the configuration, the history, the steps that are left and which jobs are out
pub record Committed (old : Shown) (worker : ℕ) (j : Job) (r : Receipt) (new : Shown) : Type 0 where
  pub worker_is : r.entry.worker ≡ worker
  pub thread_is : r.entry.thread ≡ j.thread
  pub commit : IsCommit (program_of old) j.allowance old.named.limit old.config (entry_view r.entry) new.config
  pub index : r.index ≡ place_of old.history r.entry
  pub idle : (r.index ≡ None) ↔ IsStill (program_of old) old.config old.named.limit j.thread
  pub changes : new ≡ record old {
    config = new.config;
    history = noted_in old.history r.entry;
    left = old.left + (j.allowance - steps_in r.entry);
    out = committed_out old.out j.thread (option_map act_view r.entry.shared);
  }

-- committed; or the job isn't out; or memory ran out, and then nothing changes
abbrev pub CommitGives : Shown → (worker : ℕ) → Job → Result Receipt CommitRefused → Shown → Type 0
CommitGives old worker j (Ok r) new = IsLent old j × Committed old worker j r new
CommitGives old worker j (Err (commit.NotOut k)) new = (k ≡ j) × (IsLent old j → ⊥) × (new ≡ old)
CommitGives old worker j (Err (commit.NoMemory k)) new = (k ≡ j) × IsLent old j × (new ≡ old)

-- the job isn't out any more and its allowance counts as left; nothing changes where it never was out
pub record GivesBack (old : Shown) (j : Job) (new : Shown) : Type 0 where
  pub back : IsLent old j → new ≡ record old { left = old.left + j.allowance; out = slice_set old.out j.thread None }
  pub same : (IsLent old j → ⊥) → new ≡ old

-- no thread is out, and all steps that were go back
abbrev pub all_back : Shown → Shown
all_back m = record m { left = m.left + allowances m.out; out = all_in (length m.out) }

abbrev pub outcome_view : CodeOutcome → Outcome
outcome_view ending.Done = EndDone
outcome_view ending.Waiting = EndWaiting
outcome_view ending.Full = EndFull
outcome_view ending.Budget = EndBudget

-- none while the run goes on, that is while a job is out or could be taken; else how the configuration ends it
abbrev pub OutcomeGives : Shown → Option CodeOutcome → Type 0
OutcomeGives m None = SomeOut m.out ⊎ ((0 < m.left) × ((t : ℕ) × MayTake m t))
OutcomeGives m (Some o) =
    NoneOut m.out × Rests m × (outcome (program_of m) m.config (step_count (entries_of m)) m.named.budget (Some m.named.limit) ≡ Some (outcome_view o))

-- nobody is out, and nothing can be taken
abbrev pub IsOver : Shown → Type 0
IsOver m = NoneOut m.out × Rests m
