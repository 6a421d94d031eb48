-- How counts of names change.
use Rattle.std.specs.Prelude.{◌≡◌, ℕ, ◌+◌, ◌<◌, ◌≤◌, length, vec_len, vec_capacity}
use Rattle.pat_machine_laws.specs.refcounts.Counting.{count_at}
use Rattle.pat_machine_indexes.specs.declared.refcounts.names.RefCounts.{RefCounts}
use Rattle.pat_machine_indexes.specs.declared.refcounts.changing.Change.{Change}
use Rattle.pat_machine_indexes.specs.declared.refcounts.changing.Change.TheVariants.{Come, Go}
use Rattle.pat_limits.specs.Limits.{number_count}

-- so many names more of each mailbox can be counted
abbrev pub HasPlaces : RefCounts → (ℕ → ℕ) → Type 0
HasPlaces ns more = (a : ℕ) → 0 < more a → (a < length ns.times.items) × (count_at ns.times.items a + more a < number_count)

-- so many names more of each mailbox are counted
pub record Counts (old : RefCounts) (more : ℕ → ℕ) (new : RefCounts) : Type 0 where
  pub whole : length new.times.items ≡ length old.times.items
  pub times : (a : ℕ) → count_at new.times.items a ≡ count_at old.times.items a + more a
  pub room : vec_capacity old.times ≤ vec_capacity new.times
  pub len : vec_len new.times ≡ vec_len old.times

-- at least so many names of each mailbox are counted
abbrev pub Covers : RefCounts → (ℕ → ℕ) → Type 0
Covers ns less = (a : ℕ) → less a ≤ count_at ns.times.items a

-- so many names less of each mailbox are counted
pub record Forgets (old : RefCounts) (less : ℕ → ℕ) (new : RefCounts) : Type 0 where
  pub whole : length new.times.items ≡ length old.times.items
  pub times : (a : ℕ) → count_at new.times.items a + less a ≡ count_at old.times.items a
  pub room : vec_capacity old.times ≤ vec_capacity new.times
  pub len : vec_len new.times ≡ vec_len old.times

-- so many names can come, or go
abbrev pub Fits : Change → RefCounts → (ℕ → ℕ) → Type 0
Fits Come ns names = HasPlaces ns names
Fits Go ns names = Covers ns names

-- so many names came, or went
abbrev pub Changes : Change → RefCounts → (ℕ → ℕ) → RefCounts → Type 0
Changes Come old names new = Counts old names new
Changes Go old names new = Forgets old names new
