-- Numbers in ascending order: where one stands, and one more or less of them.
use Rattle.std.specs.Prelude.{◌≡◌, ℕ, ◌+◌, ◌<◌, ◌≤◌, List, length, get_or, IsTrue, vec_len, vec_capacity, ◌⊎◌}
use Rattle.pat_semantics_spec.specs.Programs.{is_among}
use Rattle.pat_semantics_spec.specs.Orders.{AscendsFrom}
use Rattle.pat_machine_indexes.specs.declared.ready_sets.ascending.Ascending.{Ascending}

-- the number stands there
abbrev pub StandsAt : List ℕ → (number place : ℕ) → Type 0
StandsAt ns n i = (i < length ns) × ((d : ℕ) → get_or ns i d ≡ n)

-- those in front of the place are less than the number, and those from it on are greater
pub record FitsAt (ns : List ℕ) (n i : ℕ) : Type 0 where
  pub within : i ≤ length ns
  pub front : (k d : ℕ) → k < length ns → k < i → get_or ns k d < n
  pub behind : (k d : ℕ) → k < length ns → i ≤ k → n < get_or ns k d

-- those up to the place are at most the number, and those from it on are greater
pub record IsPlaceAbove (ns : List ℕ) (n i : ℕ) : Type 0 where
  pub within : i ≤ length ns
  pub front : (k d : ℕ) → k < length ns → k < i → get_or ns k d ≤ n
  pub behind : (k d : ℕ) → k < length ns → i ≤ k → n < get_or ns k d

-- the number is one of them
abbrev pub Has : Ascending → ℕ → Type 0
Has ns n = IsTrue (is_among n ns.numbers.items)

-- the number is one of them, and just those that were
pub record AddsNumber (old : Ascending) (n : ℕ) (new : Ascending) : Type 0 where
  pub order : AscendsFrom 0 new.numbers.items
  pub own : Has new n
  pub others : (k : ℕ) → Has old k → Has new k
  pub only : (k : ℕ) → Has new k → Has old k ⊎ (k ≡ n)
  pub len : vec_len new.numbers ≤ vec_len old.numbers + 1
  pub capacity : vec_capacity old.numbers ≤ vec_capacity new.numbers

-- the number isn't one of them, and just those others are that were
pub record RemovesNumber (old : Ascending) (n : ℕ) (new : Ascending) : Type 0 where
  pub order : AscendsFrom 0 new.numbers.items
  pub own : Has new n → ⊥
  pub others : (k : ℕ) → (k ≡ n → ⊥) → Has old k → Has new k
  pub only : (k : ℕ) → Has new k → Has old k
  pub len : vec_len new.numbers ≤ vec_len old.numbers
  pub capacity : vec_capacity old.numbers ≤ vec_capacity new.numbers
