-- Which options the words of a call choose.
use Rattle.std.specs.Prelude.{ℕ, ◌<◌, ◌≤◌, ◌&&◌, nat_le, bytes_eq, is_none, if◌then◌else◌, List, [], ◌∷◌, length, Option, Some, None, option_map, option_and_then, IfSome, codes}
use Rattle.pat_texts_spec.specs.Numbers.{read_digits}
use Rattle.pat_run.specs.declared.options.options.Choice.{Choice}
use Rattle.pat_run.specs.declared.options.options.RunOptions.{RunOptions}
use Rattle.pat_limits.specs.Limits.{most_messages, most_steps, most_workers}

-- the number that one to seven decimal digits spell
abbrev pub number_of : List ℕ → Option ℕ
number_of word = if nat_le 1 (length word) && nat_le (length word) 7 then read_digits 0 word else None

-- a number of workers that wasn't chosen yet, from 1 to 64
abbrev pub with_workers : Choice → Option ℕ → Option Choice
with_workers c None = None
with_workers c (Some n) = if is_none c.workers && (nat_le 1 n && nat_le n most_workers) then Some (record { workers = Some n; steps = c.steps; messages = c.messages }) else None

-- a number of steps that wasn't chosen yet, from 0 to 1,000,000
abbrev pub with_steps : Choice → Option ℕ → Option Choice
with_steps c None = None
with_steps c (Some n) = if is_none c.steps && nat_le n most_steps then Some (record { workers = c.workers; steps = Some n; messages = c.messages }) else None

-- a number of messages that wasn't chosen yet, from 1 to 1,000,000
abbrev pub with_messages : Choice → Option ℕ → Option Choice
with_messages c None = None
with_messages c (Some n) = if is_none c.messages && (nat_le 1 n && nat_le n most_messages) then Some (record { workers = c.workers; steps = c.steps; messages = Some n }) else None

-- one option: its name and its number
abbrev pub with_option : Choice → (name number : List ℕ) → Option Choice
with_option c name number =
    if bytes_eq name (codes "--workers") then with_workers c (number_of number)
    else if bytes_eq name (codes "--steps") then with_steps c (number_of number)
    else if bytes_eq name (codes "--messages") then with_messages c (number_of number)
    else None

-- options in any order, each as two words, and each at most once
abbrev pub choices : Choice → List (List ℕ) → Option Choice
choices c [] = Some c
choices c (name ∷ []) = None
choices c (name ∷ number ∷ rest) = option_and_then (λ d. choices d rest) (with_option c name number)

abbrev pub or_default : Option ℕ → ℕ → ℕ
or_default None n = n
or_default (Some m) n = m

-- one worker, 100,000 steps and 1,000,000 messages, where nothing else is chosen
abbrev pub with_defaults : Choice → RunOptions
with_defaults c = record { workers = or_default c.workers 1; steps = or_default c.steps 100000; messages = or_default c.messages most_messages }

abbrev pub nothing_chosen : Choice
nothing_chosen = record { workers = None; steps = None; messages = None }

-- the options that the words choose, if they are options
abbrev pub options_of : List (List ℕ) → Option RunOptions
options_of words = option_map with_defaults (choices nothing_chosen words)

-- the number of steps, where nothing else is chosen
abbrev pub steps_alone : Choice → Option ℕ
steps_alone c = if is_none c.workers && is_none c.messages then Some (with_defaults c).steps else None

-- the number of steps that the words choose, if they choose that alone
abbrev pub steps_of : List (List ℕ) → Option ℕ
steps_of words = option_and_then steps_alone (choices nothing_chosen words)

-- ---- bounds

abbrev pub ChosenWithin : Choice → Type 0
ChosenWithin c = IfSome c.workers (λ n. (0 < n) × (n ≤ most_workers)) × IfSome c.steps (λ n. n ≤ most_steps) × IfSome c.messages (λ n. (0 < n) × (n ≤ most_messages))

-- from 1 to 64 workers, at most 1,000,000 steps, and from 1 to 1,000,000 messages
pub record IsWithin (o : RunOptions) : Type 0 where
  pub workers : (0 < o.workers) × (o.workers ≤ most_workers)
  pub steps : o.steps ≤ most_steps
  pub some : 0 < o.messages
  pub messages : o.messages ≤ most_messages
