-- Open steps: enabled, and not held back by the limit on pending messages.
use Rattle.std.specs.Prelude.{◌≡◌, ℕ, ◌<◌, Bool, ◌&&◌, ◌||◌, not, nat_lt, length, is_some}
use Rattle.pat_semantics_spec.specs.Programs.{Program}
use Rattle.pat_semantics_spec.specs.Configs.{Config}
use Rattle.pat_semantics_spec.specs.Steps.{Act, ActSend, Step, step}
use Rattle.pat_semantics_spec.specs.Runs.{can_step_thread}
use Rattle.pat_semantics_laws.specs.Laws.{IsEnabled}

-- the step is enabled, and it is no send or fewer messages are pending than the limit allows
abbrev pub IsOpen : Program → Config → (limit : ℕ) → Step → Type 0
IsOpen p c limit k = IsEnabled p c k × (k.act ≡ ActSend → length c.messages < limit)

-- no step of the thread is open
abbrev pub IsStill : Program → Config → (limit : ℕ) → ℕ → Type 0
IsStill p c limit t = (a : Act) → IsOpen p c limit (record { thread = t; act = a }) → ⊥

-- whether one more message may be pending
abbrev pub has_space : Config → (limit : ℕ) → Bool
has_space c limit = nat_lt (length c.messages) limit

-- whether a send of the thread is enabled
abbrev pub can_send : Program → Config → ℕ → Bool
can_send p c t = is_some (step p c (record { thread = t; act = ActSend }))

-- whether a step of the thread is open
abbrev pub can_go_on : Program → Config → (limit : ℕ) → ℕ → Bool
can_go_on p c limit t = can_step_thread p c t && (has_space c limit || not (can_send p c t))
