-- Queues by number.
use Rattle.std.specs.Prelude.{◌≡◌, ◌≢◌, ℕ, Bool, true, false, List, [], Option, Some, None, slice_get, take}
use Rattle.std.specs.Option.{unwrap_or}
use Rattle.std.specs.List.{AllByRecursion}

-- the queue of a number, if that is live
abbrev pub queue_at : {T : Type 0} → List (Option (List T)) → ℕ → Option (List T)
queue_at queues q = unwrap_or (slice_get queues q) None

-- its values in order
abbrev pub values_at : {T : Type 0} → List (Option (List T)) → ℕ → List T
values_at queues q = unwrap_or (queue_at queues q) []

abbrev pub IsLive : {T : Type 0} → List (Option (List T)) → ℕ → Type 0
IsLive {T} queues q = (values : List T) × (queue_at queues q ≡ Some values)

-- one queue is now this one, and each other stays
pub record Becomes {T : Type 0} (old new : List (Option (List T))) (q : ℕ) (queue : Option (List T)) : Type 0 where
  pub here : queue_at new q ≡ queue
  pub others : (r : ℕ) → r ≢ q → queue_at new r ≡ queue_at old r

abbrev pub NonePasses : {T : Type 0} → (T → Bool) → List T → Type 0
NonePasses test values = AllByRecursion (λ v. test v ≡ false) values

-- the first value that passes, with its place; or none where none does
abbrev pub Finds : {T : Type 0} → (T → Bool) → List T → Option (ℕ × T) → Type 0
Finds test values (Some (place, value)) = (slice_get values place ≡ Some value) × (test value ≡ true) × NonePasses test (take place values)
Finds test values None = NonePasses test values
