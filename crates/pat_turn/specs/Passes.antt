-- What a seat of the turn is, between calls and while it holds the value.
use Rattle.std.specs.Prelude.{◌≡◌, ℕ, List, [], ◌∷◌, Option, None}
use Rattle.atomic_table.specs.Seated.{TableId}
use Rattle.atomic_table.specs.declared.shared.Seat.{Seat}
use Rattle.pat_turn.specs.declared.view.View.{View}
use Rattle.pat_turn.specs.declared.view.Stage.TheVariants.{Idle, Holds}

-- two words and one slot
abbrev pub IsTable : TableId → Type 0
IsTable z = (z.words ≡ 2) × (z.slots ≡ 1)

abbrev pub idled : {N E : Type 0} → View N E → View N E
idled v = record v { stage = Idle }

module _ {V N E : Type 0} where
  -- what a pass knows, but for its ticket
  abbrev pub known : Seat (Option V) (View N E) → View N E
  known s = idled s.me.0

  abbrev pub IsIdle : Seat (Option V) (View N E) → Type 0
  IsIdle s = (s.me.0.stage ≡ Idle) × (s.me.1 ≡ [])

  -- its ticket is served, and the slot is out with it, empty
  abbrev pub IsHolding : Seat (Option V) (View N E) → Type 0
  IsHolding s = (t : ℕ) × (s.me.0.stage ≡ Holds t) × (s.me.1 ≡ (0, None) ∷ [])

abbrev pub with_seen : {N E : Type 0} → View N E → List E → View N E
with_seen v log = record v { seen = log }
