-- Turns: the history that one worker makes from a configuration, with so many steps and without a limit on messages.
use Rattle.std.specs.Prelude.{ℕ, zero, suc, ◌-◌, ◌&&◌, min, nat_lt, if◌then◌else◌, List, [], ◌∷◌, length, Option, Some, None, option_map, unwrap_or, is_some, find}
use Rattle.std.specs.Option.{option_or}
use Rattle.pat_semantics_spec.specs.Programs.{Program}
use Rattle.pat_semantics_spec.specs.Configs.{Thread, Config, thread_at, with_thread}
use Rattle.pat_semantics_spec.specs.Steps.{Act, step, local_step}
use Rattle.pat_semantics_spec.specs.Runs.{Entry, entry_steps, acts, can_step_thread}
use Rattle.pat_machine_spec.specs.Turns.{is_above}

-- the first thread above the last one that can take a step
abbrev pub able_above : Program → Config → Option ℕ → Option ℕ
able_above p c last = option_map (λ e. e.0) (find (λ e. is_above last e.0 && can_step_thread p c e.0) c.threads)

-- the thread whose turn it is: the first of those above the last one, or else the first of all
abbrev pub next_thread : Program → Config → Option ℕ → Option ℕ
next_thread p c last = option_or (able_above p c last) (able_above p c None)

-- how many local steps a thread takes of so many, and what it is then
pub record Locals : Type 0 where
  pub count : ℕ
  pub thread : Thread

-- one step more before these
abbrev pub one_before : Locals → Locals
one_before l = record { count = suc l.count; thread = l.thread }

abbrev pub locals_by : (Thread → Locals) → Thread → Option Thread → Locals
locals_by more s None = record { count = 0; thread = s }
locals_by more s (Some r) = one_before (more r)

-- local steps of a thread until none follows, or so many are taken
abbrev pub take_locals : Program → ℕ → Thread → Locals
take_locals p zero s = record { count = 0; thread = s }
take_locals p (suc n) s = locals_by (take_locals p n) s (local_step p s)

-- the first act of the thread that is enabled; where no local step is, that is its shared act, a receive with the first message that fits
abbrev pub first_act : Program → Config → ℕ → Option Act
first_act p c t = find (λ a. is_some (step p c (record { thread = t; act = a }))) (acts c)

-- the configuration after the act, if there is one
abbrev pub after_act : Program → Config → ℕ → Option Act → Config
after_act p c t None = c
after_act p c t (Some a) = unwrap_or (step p c (record { thread = t; act = a })) c

-- an entry of a history, and the configuration after it
pub record Turn : Type 0 where
  pub entry : Entry
  pub after : Config

-- the turn that ends with this act
abbrev pub turn_with : Program → Config → ℕ → ℕ → Option Act → Turn
turn_with p c t count a = record {
  entry = record { worker = 0; thread = t; local_steps = count; shared = a };
  after = after_act p c t a;
}

-- the turn after the local steps: the shared act, where a step of the allowance is left
abbrev pub turn_by : Program → (allowance : ℕ) → Config → ℕ → Locals → Turn
turn_by p allowance c t l =
    let middle = with_thread c t l.thread in
    turn_with p middle t l.count (if nat_lt l.count allowance then first_act p middle t else None)

-- the turn of a thread, if it is there
abbrev pub turn_of : Program → (allowance : ℕ) → Config → ℕ → Option Thread → Turn
turn_of p allowance c t None = turn_with p c t 0 None
turn_of p allowance c t (Some s) = turn_by p allowance c t (take_locals p allowance s)

-- the turn of thread t with so many steps left
abbrev pub turn_at : Program → (left : ℕ) → Config → ℕ → Turn
turn_at p left c t = turn_of p (min 256 left) c t (thread_at c t)

abbrev pub turns_by : (Config → ℕ → ℕ → List Entry) → (ℕ → Turn) → (left : ℕ) → Option ℕ → List Entry
turns_by more turn left None = []
turns_by more turn left (Some t) =
    let made = turn t in made.entry ∷ more made.after (left - length (entry_steps made.entry)) t

-- at most so many turns: as long as a step is enabled and steps are left
abbrev pub turns_within : ℕ → Program → Config → (left : ℕ) → (last : Option ℕ) → List Entry
turns_within zero p c left last = []
turns_within (suc f) p c left last =
    if nat_lt 0 left
    then turns_by (λ d rest t. turns_within f p d rest (Some t)) (turn_at p left c) left (next_thread p c last)
    else []

-- all turns: each takes a step at least
abbrev pub turns_from : Program → Config → (left : ℕ) → (last : Option ℕ) → List Entry
turns_from p c left last = turns_within left p c left last

-- the history of worker 0 from the configuration
abbrev pub turns : Program → Config → ℕ → List Entry
turns p c steps = turns_from p c steps None
