-- Ports in memory, as contracts see them.
use Rattle.std.specs.Prelude.{◌≡◌, ◌⊎◌, length, IsTrue, ℕ, ◌+◌, ◌-◌, ◌^◌, ◌<◌, Bool, false, nat_eq, nat_lt, List, Option, Some, None, if◌then◌else◌}
use Rattle.std.specs.List.{list_any}
use Rattle.pat_ports.specs.declared.reach.Reach.{Reach}

-- a source: the bytes left, the most that it gives at a call, the calls that fail, the number of the next call, how many
-- failed, and how far it was read
pub record MemorySource : Type 0 where
  pub rest : List ℕ
  pub piece : ℕ
  pub failing : List ℕ
  pub call : Option ℕ
  pub faults : ℕ
  pub reach : Reach

-- a sink: the bytes taken, the most that it takes at a call and in all, the calls that fail, the number of the next call, and how many failed
pub record MemorySink : Type 0 where
  pub taken : List ℕ
  pub piece : ℕ
  pub room : ℕ
  pub failing : List ℕ
  pub call : Option ℕ
  pub faults : ℕ

-- whether the call is listed; one past the last number of 64 bits has no number
abbrev pub is_listed : Option ℕ → List ℕ → Bool
is_listed None failing = false
is_listed (Some n) failing = list_any (λ k. nat_eq k n) failing

abbrev pub number_past : ℕ → Option ℕ
number_past n = if nat_lt n (2 ^ 64 - 1) then Some (n + 1) else None

-- the number of the call after this one
abbrev pub number_after : Option ℕ → Option ℕ
number_after None = None
number_after (Some n) = number_past n

-- the sink refuses these bytes: the call is listed, or there is a byte and no room is left
abbrev pub Refuses : MemorySink → List ℕ → Type 0
Refuses s bytes = IsTrue (is_listed s.call s.failing) ⊎ ((length s.taken ≡ s.room) × (0 < length bytes))

-- a source that never fails: the bytes left, the most that it gives at a call, and how far it was read
pub record Pieces : Type 0 where
  pub rest : List ℕ
  pub piece : ℕ
  pub reach : Reach
