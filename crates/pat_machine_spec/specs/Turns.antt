-- Whose turn it is.
use Rattle.std.specs.Prelude.{◌≡◌, ℕ, ◌<◌, ◌≤◌, Bool, true, not, ◌&&◌, nat_lt, Option, Some, None, option_map, find, ◌⊎◌}
use Rattle.std.specs.Option.{option_or}
use Rattle.pat_semantics_spec.specs.Programs.{Program}
use Rattle.pat_semantics_spec.specs.Configs.{Config}
use Rattle.pat_semantics_spec.specs.Steps.{Act}
use Rattle.pat_machine_spec.specs.Opens.{IsOpen, can_go_on}
use Rattle.pat_machine_spec.specs.Lendings.{Out, allowance_of, is_out}

-- the thread isn't out, and a step of it is open
abbrev pub IsReady : Program → Config → (limit : ℕ) → Out → ℕ → Type 0
IsReady p c limit out t = (allowance_of out t ≡ None) × ((a : Act) × IsOpen p c limit (record { thread = t; act = a }))

-- nothing can be taken: no thread is ready, or no step is left
abbrev pub IsAtRest : Program → Config → (limit : ℕ) → Out → (left : ℕ) → Type 0
IsAtRest p c limit out left = (left ≡ 0) ⊎ ((t : ℕ) → IsReady p c limit out t → ⊥)

-- thread t comes before u, or is u: those above the one last taken come first, and on each side of it the lesser
abbrev pub ComesFirst : Option ℕ → ℕ → ℕ → Type 0
ComesFirst None t u = t ≤ u
ComesFirst (Some last) t u = ((last < t) × (last < u → t ≤ u)) ⊎ ((t ≤ last) × (u ≤ last) × (t ≤ u))

-- it is this thread's turn: of the ready threads it comes first
pub record IsTurn (p : Program) (c : Config) (limit : ℕ) (out : Out) (last : Option ℕ) (t : ℕ) : Type 0 where
  pub ready : IsReady p c limit out t
  pub first : (u : ℕ) → IsReady p c limit out u → ComesFirst last t u

-- whether the thread is above the one last taken, if one was
abbrev pub is_above : Option ℕ → ℕ → Bool
is_above None n = true
is_above (Some t) n = nat_lt t n

-- whether the thread isn't out and a step of it is open
abbrev pub is_ready : Program → Config → (limit : ℕ) → Out → ℕ → Bool
is_ready p c limit out t = not (is_out out t) && can_go_on p c limit t

-- the first ready thread above it
abbrev pub ready_above : Program → Config → (limit : ℕ) → Out → Option ℕ → Option ℕ
ready_above p c limit out last = option_map (λ e. e.0) (find (λ e. is_above last e.0 && is_ready p c limit out e.0) c.threads)

-- the first of those above the one last taken, or else the first of all
abbrev pub turn : Program → Config → (limit : ℕ) → Out → Option ℕ → Option ℕ
turn p c limit out last = option_or (ready_above p c limit out last) (ready_above p c limit out None)
