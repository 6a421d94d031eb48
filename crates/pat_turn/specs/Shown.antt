-- What contracts see of a turn and of a pass.
use Rattle.std.specs.Prelude.{◌≡◌, ℕ, zero, suc, ◌<◌, Bool, true, false, List, [], ◌∷◌, ◌++◌, length, slice_get, Option, Some, None}
use Rattle.std.specs.List.{All}
use mathlib.Core.List.{IsPrefix}
use Rattle.pat_turn.specs.Rule.{entries_naming}
use Rattle.pat_turn.specs.declared.view.Part.{Part}
use Rattle.atomic_table.specs.Seated.{TableId}
use Rattle.pat_turn.specs.declared.view.View.{View}
use Rattle.pat_turn.specs.declared.view.Stage.{Stage}
use Rattle.pat_turn.specs.declared.view.Stage.TheVariants.{Spent, Idle, Waits, Holds}
use Rattle.atomic_table.specs.Table.{Me}

-- its turn, its number, the name of the value, the log that it has seen, and whether it holds the value
pub record ShownPass (N E : Type 0) : Type 0 where
  pub turn : TableId
  pub number : ℕ
  pub name : Option N
  pub seen : List E
  pub holds : Bool

abbrev pub has_value : Stage → Bool
has_value Spent = false
has_value Idle = false
has_value (Waits t) = false
has_value (Holds t) = true

module _ {V N E : Type 0} where
  abbrev pub shown : TableId → Me (Option V) (View N E) → ShownPass N E
  shown z m = record { turn = z; number = m.0.number; name = m.0.name; seen = m.0.seen; holds = has_value m.0.stage }

  -- no ticket is out with it and no slot; or its ticket is served, and the slot is out with it, empty
  abbrev pub Rests : Me (Option V) (View N E) → Stage → Type 0
  Rests m Spent = ⊥
  Rests m Idle = m.1 ≡ []
  Rests m (Waits t) = ⊥
  Rests m (Holds t) = m.1 ≡ (0, None) ∷ []

  pub record IsSettled (number : ℕ) (m : Me (Option V) (View N E)) : Type 0 where
    pub numbered : number ≡ m.0.number
    pub rests : Rests m m.0.stage
    pub alone : m.0.joined ≡ []

-- which turn it is, the name of its value, and how many passes it has
pub record ShownTurn (N : Type 0) : Type 0 where
  pub id : TableId
  pub name : N
  pub passes : ℕ

-- the log goes on from what was seen with entries of the number alone
abbrev pub GoesOn : {E : Type 0} → (E → ℕ) → ℕ → List E → List E → Type 0
GoesOn {E} by number seen log = (more : List E) × (log ≡ seen ++ more) × All (λ (e : E). by e ≡ number) more

abbrev pub turn_of : {N : Type 0} → TableId → N → ℕ → ShownTurn N
turn_of z name n = record { id = z; name = name; passes = n }

module _ {N E : Type 0} where
  -- a pass that has seen nothing
  abbrev pub newcomer : ShownTurn N → ℕ → ShownPass N E
  newcomer t number = record { turn = t.id; number = number; name = Some t.name; seen = []; holds = false }

  -- n passes that have seen nothing, from the number k on
  abbrev pub newcomers : ShownTurn N → ℕ → ℕ → List (ShownPass N E)
  newcomers t k zero = []
  newcomers t k (suc n) = newcomer t k ∷ newcomers t (suc k) n

  -- these are all passes of the turn, as they were made
  abbrev pub AreNew : ShownTurn N → List (ShownPass N E) → Type 0
  AreNew t ps = ps ≡ newcomers t 0 t.passes

  -- these are all passes of the turn, in order, and none holds the value
  abbrev pub AreAll : ShownTurn N → List (ShownPass N E) → Type 0
  AreAll t ps = (length ps ≡ t.passes) × ((i : ℕ) (p : ShownPass N E) → slice_get ps i ≡ Some p → (p.turn ≡ t.id) × (p.number ≡ i) × (p.holds ≡ false))

  -- the log has what each pass has seen as a beginning, its entries of each number are those that the pass of that number has seen, and each entry is of one of these passes
  abbrev pub IsOfAll : (E → ℕ) → List (ShownPass N E) → List E → Type 0
  IsOfAll by ps log = ((i : ℕ) (p : ShownPass N E) → slice_get ps i ≡ Some p → IsPrefix p.seen log × (entries_naming by i log ≡ entries_naming by i p.seen)) × All (λ (e : E). by e < length ps) log

  abbrev pub as_part : ShownPass N E → Part E
  as_part p = record { number = p.number; seen = p.seen }
