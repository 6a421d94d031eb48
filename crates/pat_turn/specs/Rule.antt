-- The rule of the turn, and what each kind of step tells.
use Rattle.std.specs.Prelude.{◌≡◌, ◌≢◌, ℕ, ◌+◌, ◌%◌, ◌^◌, ◌<◌, ◌≤◌, ◌==◌, Bool, true, false, List, [], ◌∷◌, ◌++◌, length, Option, Some, None}
use Rattle.std.specs.List.{filter, sum_by, All}
use mathlib.Core.List.{IsPrefix}
use mathlib.Core.Option.{none, some}
use mathlib.Core.Option as maybe
use lib.ListN.{get_elem?}
use Rattle.atomic_table.specs.Table.{State, Me}
use Rattle.pat_turn.specs.declared.view.View.{View}
use Rattle.pat_turn.specs.declared.view.Part.{Part}
use Rattle.pat_turn.specs.declared.view.Stage.{Stage}
use Rattle.pat_turn.specs.declared.view.Stage.TheVariants.{Spent, Idle, Waits, Holds}
use Rattle.pat_limits.specs.Limits.{most_workers}

-- the entries of the log that name the number k
abbrev pub entries_naming : {E : Type 0} → (E → ℕ) → ℕ → List E → List E
entries_naming by k log = filter (λ e. by e == k) log

-- 1 where a ticket is out
abbrev pub ticket_count : Stage → ℕ
ticket_count Spent = 0
ticket_count Idle = 0
ticket_count (Waits t) = 1
ticket_count (Holds t) = 1

abbrev pub tickets_out : {N E : Type 0} → View N E → ℕ
tickets_out v = ticket_count v.stage

abbrev pub IsLive : Stage → Type 0
IsLive Spent = ⊥
IsLive Idle = Unit {0}
IsLive (Waits t) = Unit {0}
IsLive (Holds t) = Unit {0}

-- What the rule says there is: how many seats there are, how many tickets were drawn and served, the log of the value as it was when it was last at home,
-- what each pass has seen, which seat keeps each pass, which seat has each ticket, and whether the value is out
pub record Facts (E : Type 0) : Type 0 where
  pub seats : ℕ
  pub drawn : ℕ
  pub served : ℕ
  pub log : List E
  pub part : ℕ → List E
  pub keeper : ℕ → ℕ
  pub holder : ℕ → ℕ
  pub busy : Bool

-- what is so of a seat's ticket
abbrev pub Stands : {E : Type 0} → Facts E → ℕ → Stage → Type 0
Stands f seat Spent = Unit {0}
Stands f seat Idle = Unit {0}
Stands f seat (Waits t) = (f.served ≤ t) × (t < f.drawn) × (f.holder t ≡ seat)
Stands f seat (Holds t) = (t ≡ f.served) × (t < f.drawn) × (f.holder t ≡ seat) × (f.busy ≡ true) × (f.part seat ≡ f.log)

abbrev pub Took : {E : Type 0} → Facts E → ℕ → Part E → Type 0
Took f seat p = (p.number ≢ seat) × (f.keeper p.number ≡ seat) × (p.seen ≡ f.part p.number)

-- what is so of a pass that is not spent: its name, its number, the number of passes where it is the first, what it has seen, and which passes were joined to it
abbrev pub Knows : {N E : Type 0} → N → Facts E → ℕ → View N E → Type 0
Knows name f seat v = (v.name ≡ Some name) × (v.number ≡ seat) × (seat ≡ 0 → v.made ≡ f.seats) × (f.keeper seat ≡ seat) × (v.seen ≡ f.part seat) × All (Took f seat) v.joined

-- what is so of the log of the value, and of what each number has seen
pub record Logged {E : Type 0} (by : E → ℕ) (seats : ℕ) (log : List E) (part : ℕ → List E) : Type 0 where
  pub prefix : (k : ℕ) → IsPrefix (part k) log
  pub own : (k : ℕ) → entries_naming by k log ≡ entries_naming by k (part k)
  pub unmade : (k : ℕ) → seats ≤ k → part k ≡ []

abbrev pub AtHome : {V N E : Type 0} → (V → N) → (V → List E) → N → List E → List (maybe.Option (Option V)) → Type 0
AtHome {V} name_of log_of name log homes = (x : V) × (homes ≡ some (Some x) ∷ []) × (name_of x ≡ name) × (log_of x ≡ log)

-- the seat that has the served ticket has the value
abbrev pub IsOut : {V N E : Type 0} → Facts E → List (maybe.Option (Option V)) → List (View N E) → Type 0
IsOut {V} {N} {E} f homes views = (homes ≡ none ∷ []) × ((u : View N E) × (get_elem? views (f.holder f.served) ≡ some u) × (u.stage ≡ Holds f.served))

pub record IsTurn {V N E : Type 0} (name_of : V → N) (log_of : V → List E) (by : E → ℕ) (name : N) (passes : ℕ) (s : State (Option V) (View N E)) : Type 0 where
  pub facts : Facts E
  pub words : s.words ≡ facts.drawn % 2 ^ 64 ∷ facts.served % 2 ^ 64 ∷ []
  pub count : length s.views ≡ facts.seats
  pub few : (facts.seats ≤ passes) × (passes ≤ most_workers)
  pub tickets : sum_by tickets_out s.views + facts.served ≡ facts.drawn
  pub fresh : (k : ℕ) → facts.seats ≤ k → facts.keeper k ≡ k
  pub knows : (j : ℕ) (v : View N E) → get_elem? s.views j ≡ some v → IsLive v.stage → Knows name facts j v
  pub stands : (j : ℕ) (v : View N E) → get_elem? s.views j ≡ some v → Stands facts j v.stage
  pub logged : Logged by facts.seats facts.log facts.part
  pub home : facts.busy ≡ false → AtHome name_of log_of name facts.log s.homes
  pub out : facts.busy ≡ true → IsOut facts s.homes s.views

module _ {N E : Type 0} where
  abbrev pub opened : N → View N E
  opened name = record { stage = Idle; number = 0; name = Some name; seen = []; made = 1; joined = [] }

  abbrev pub counted : View N E → View N E
  counted v = record v { made = v.made + 1 }

  abbrev pub another : View N E → View N E
  another v = record { stage = Idle; number = v.made; name = v.name; seen = []; made = 0; joined = [] }

  abbrev pub part_of : View N E → Part E
  part_of v = record { number = v.number; seen = v.seen }

  abbrev pub both : View N E → View N E → View N E
  both v w = record v { joined = v.joined ++ part_of w ∷ [] }

  abbrev pub spent : View N E
  spent = record { stage = Spent; number = 0; name = None; seen = []; made = 0; joined = [] }

abbrev pub Mine : Type 0 → Type 0 → Type 0 → Type 0
Mine V N E = Me (Option V) (View N E)

module _ {V N E : Type 0} where
  -- the pass keeps its ticket
  abbrev pub drew : Mine V N E → ℕ → Mine V N E → Type 0
  drew m found m' = (t : ℕ) × (t % 2 ^ 64 ≡ found) × (m' ≡ (record m.0 { stage = Waits t }, m.1))

  -- what is told of the value that comes: its name is the pass's, its log begins with what the pass has seen, and has no further entry of the pass
  pub record Comes (name_of : V → N) (log_of : V → List E) (by : E → ℕ) (v : View N E) (x : V) : Type 0 where
    pub named : v.name ≡ Some (name_of x)
    pub prefix : IsPrefix v.seen (log_of x)
    pub own : entries_naming by v.number (log_of x) ≡ entries_naming by v.number v.seen

  abbrev pub looked : (V → N) → (V → List E) → (E → ℕ) → Mine V N E → ℕ → Mine V N E → Type 0
  looked name_of log_of by m found m' = (t : ℕ) → m.0.stage ≡ Waits t
      → (found ≡ t % 2 ^ 64 → (x : V) × (m' ≡ (record m.0 { stage = Holds t; seen = log_of x }, (0, Some x) ∷ m.1)) × Comes name_of log_of by m.0 x)
      × (found ≢ t % 2 ^ 64 → m' ≡ m)

  -- its ticket goes, and seen becomes the log of the value that goes home
  abbrev pub passed : (V → List E) → Mine V N E → ℕ → Mine V N E → Type 0
  passed log_of m found m' = (x : V) → m.1 ≡ (0, Some x) ∷ [] → m' ≡ (record m.0 { stage = Idle; seen = log_of x }, [])

  -- the value may be put back: the name is the same, the log begins with what was seen, and each further entry names the pass
  pub record MayPut (name_of : V → N) (log_of : V → List E) (by : E → ℕ) (v : View N E) (x : V) : Type 0 where
    pub named : v.name ≡ Some (name_of x)
    pub more : List E
    pub log : log_of x ≡ v.seen ++ more
    pub own : All (λ (e : E). by e ≡ v.number) more
