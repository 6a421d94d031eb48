-- Which threads may go on, which are about to send, which sleep at a guard, and what changes that.
use Rattle.std.specs.Prelude.{◌≡◌, ℕ, suc, ◌+◌, ◌<◌, ◌≤◌, List, [], ◌∷◌, ◌++◌, Option, Some, None, slice_get, vec_len, vec_capacity, ◌⊎◌}
use Rattle.pat_semantics_spec.specs.Orders.{AscendsFrom}
use Rattle.pat_machine_spec.specs.Lendings.{flat}
use Rattle.pat_machine_indexes.specs.declared.ready_sets.waits.ReadySets.{ReadySets}
use Rattle.pat_machine_indexes.specs.ready_sets.Ascending.{Has}

-- the thread that sleeps at the mailbox, if one does
abbrev pub sleeper_at : List (Option ℕ) → ℕ → Option ℕ
sleeper_at sleepers a = flat (slice_get sleepers a)

-- the thread may go on
abbrev pub IsAwake : ReadySets → ℕ → Type 0
IsAwake w t = Has w.awake t

-- the thread stands among those that are about to send
abbrev pub IsHeld : ReadySets → ℕ → Type 0
IsHeld w t = Has w.senders t

-- the thread sleeps at mailbox a
abbrev pub SleepsAt : ReadySets → (a t : ℕ) → Type 0
SleepsAt w a t = sleeper_at w.sleepers.items a ≡ Some t

-- both lists ascend
abbrev pub Ascend : (awake senders : List ℕ) → Type 0
Ascend awake senders = AscendsFrom 0 awake × AscendsFrom 0 senders

-- the threads that may go on ascend by number, and so do those that are about to send
abbrev pub IsInOrder : ReadySets → Type 0
IsInOrder w = Ascend w.awake.numbers.items w.senders.numbers.items

-- how many threads sleep
abbrev pub count_asleep : List (Option ℕ) → ℕ
count_asleep [] = 0
count_asleep (None ∷ ss) = count_asleep ss
count_asleep (Some t ∷ ss) = suc (count_asleep ss)

-- how many threads may go on or sleep, where one that stands in both counts twice
abbrev pub known : ReadySets → ℕ
known w = vec_len w.awake.numbers + count_asleep w.sleepers.items

-- once all that sleep may go on, there is space for so many more
abbrev pub HasSpace : ReadySets → ℕ → Type 0
HasSpace w n = known w + n ≤ vec_capacity w.awake.numbers

-- there is space for so many more that are about to send
abbrev pub CanHold : ReadySets → ℕ → Type 0
CanHold w n = vec_len w.senders.numbers + n ≤ vec_capacity w.senders.numbers

-- there is room for one more mailbox
abbrev pub HasRoom : ReadySets → Type 0
HasRoom w = vec_len w.sleepers < vec_capacity w.sleepers

-- at most so many threads more are known, and as many more are about to send, in the same space or more
pub record Takes (n : ℕ) (w v : ReadySets) : Type 0 where
  pub len : known v ≤ known w + n
  pub capacity : vec_capacity w.awake.numbers ≤ vec_capacity v.awake.numbers
  pub held : vec_len v.senders.numbers ≤ vec_len w.senders.numbers + n
  pub hold : vec_capacity w.senders.numbers ≤ vec_capacity v.senders.numbers

-- thread t may go on and isn't about to send, and the others stand as they did; who sleeps is as it was
pub record Adds (w : ReadySets) (t : ℕ) (v : ReadySets) : Type 0 where
  pub order : IsInOrder v
  pub own : IsAwake v t
  pub others : (u : ℕ) → IsAwake w u → IsAwake v u
  pub only : (u : ℕ) → IsAwake v u → IsAwake w u ⊎ (u ≡ t)
  pub gone : IsHeld v t → ⊥
  pub held : (u : ℕ) → (u ≡ t → ⊥) → IsHeld w u → IsHeld v u
  pub held_only : (u : ℕ) → IsHeld v u → IsHeld w u
  pub asleep : v.sleepers.items ≡ w.sleepers.items
  pub space : Takes 1 w v
  pub room : HasRoom w → HasRoom v

-- thread t is about to send and can't go on otherwise, and the others stand as they did; who sleeps is as it was
pub record Holds (w : ReadySets) (t : ℕ) (v : ReadySets) : Type 0 where
  pub order : IsInOrder v
  pub own : IsHeld v t
  pub held : (u : ℕ) → IsHeld w u → IsHeld v u
  pub held_only : (u : ℕ) → IsHeld v u → IsHeld w u ⊎ (u ≡ t)
  pub gone : IsAwake v t → ⊥
  pub others : (u : ℕ) → (u ≡ t → ⊥) → IsAwake w u → IsAwake v u
  pub only : (u : ℕ) → IsAwake v u → IsAwake w u
  pub asleep : v.sleepers.items ≡ w.sleepers.items
  pub space : Takes 1 w v

-- thread t can't go on and isn't about to send, and the others stand as they did; who sleeps is as it was
pub record Removes (w : ReadySets) (t : ℕ) (v : ReadySets) : Type 0 where
  pub order : IsInOrder v
  pub own : IsAwake v t → ⊥
  pub others : (u : ℕ) → (u ≡ t → ⊥) → IsAwake w u → IsAwake v u
  pub only : (u : ℕ) → IsAwake v u → IsAwake w u
  pub gone : IsHeld v t → ⊥
  pub held : (u : ℕ) → (u ≡ t → ⊥) → IsHeld w u → IsHeld v u
  pub held_only : (u : ℕ) → IsHeld v u → IsHeld w u
  pub asleep : v.sleepers.items ≡ w.sleepers.items
  pub space : Takes 0 w v

-- who slept at mailbox a may go on, and just those that might; nobody sleeps there any more, and who is about to send is as it was
pub record Wakes (w : ReadySets) (a : ℕ) (v : ReadySets) : Type 0 where
  pub order : IsInOrder v
  pub others : (u : ℕ) → IsAwake w u → IsAwake v u
  pub only : (u : ℕ) → IsAwake v u → IsAwake w u ⊎ SleepsAt w a u
  pub woken : (u : ℕ) → SleepsAt w a u → IsAwake v u
  pub empty : sleeper_at v.sleepers.items a ≡ None
  pub asleep : (b u : ℕ) → SleepsAt w b u → SleepsAt v b u ⊎ IsAwake v u
  pub slept : (b u : ℕ) → SleepsAt v b u → SleepsAt w b u
  pub senders : v.senders ≡ w.senders
  pub space : Takes 0 w v
  pub room : HasRoom w → HasRoom v

-- of those that slept, these may go on, as all do that might; whoever else slept still does, or may go on, and nobody fell asleep;
-- who is about to send is as it was
pub record WakesThose (Those : (mailbox thread : ℕ) → Type 0) (w v : ReadySets) : Type 0 where
  pub order : IsInOrder v
  pub others : (u : ℕ) → IsAwake w u → IsAwake v u
  pub woken : (a u : ℕ) → Those a u → SleepsAt w a u → IsAwake v u
  pub asleep : (a u : ℕ) → SleepsAt w a u → SleepsAt v a u ⊎ IsAwake v u
  pub slept : (a u : ℕ) → SleepsAt v a u → SleepsAt w a u
  pub senders : v.senders ≡ w.senders
  pub space : Takes 0 w v
  pub room : HasRoom w → HasRoom v

-- thread t sleeps at mailbox a, can't go on and isn't about to send; the others stand as they did, and nobody else fell asleep
pub record PutsToSleep (w : ReadySets) (t a : ℕ) (v : ReadySets) : Type 0 where
  pub order : IsInOrder v
  pub own : SleepsAt v a t
  pub gone : IsAwake v t → ⊥
  pub others : (u : ℕ) → (u ≡ t → ⊥) → IsAwake w u → IsAwake v u
  pub only : (u : ℕ) → IsAwake v u → IsAwake w u
  pub held : (u : ℕ) → (u ≡ t → ⊥) → IsHeld w u → IsHeld v u
  pub held_only : (u : ℕ) → IsHeld v u → IsHeld w u
  pub asleep : (b u : ℕ) → SleepsAt w b u → SleepsAt v b u
  pub slept : (b u : ℕ) → SleepsAt v b u → SleepsAt w b u ⊎ ((b ≡ a) × (u ≡ t))
  pub space : Takes 1 w v

-- a further mailbox, where nobody sleeps
pub record AddsMailbox (w v : ReadySets) : Type 0 where
  pub awake : v.awake ≡ w.awake
  pub senders : v.senders ≡ w.senders
  pub asleep : v.sleepers.items ≡ w.sleepers.items ++ None ∷ []
  pub space : Takes 0 w v
