-- Which text and which status words and an input allow.
use Rattle.std.specs.Prelude.{◌≡◌, ◌≤◌, ◌&&◌, nat_le, if◌then◌else◌, ℕ, List, [], ◌∷◌, ◌++◌, Option, Some, None, codes}
use Rattle.pat_front.specs.declared.exit_answers.status.Status.{Status}
use Rattle.pat_front.specs.declared.exit_answers.status.Status.TheVariants.{Ok, Usage}
use Rattle.pat_command_check.specs.Allowed.{AllowedCheck}
use Rattle.pat_command_derive.specs.Allowed.{AllowedDerive}
use Rattle.pat_command_print.specs.Allowed.{AllowedPrint}
use Rattle.pat_command_run.specs.declared.command.Detail.TheVariants.{Whole}
use Rattle.pat_command_run.specs.Allowed.{AllowedRun}
use Rattle.pat_command_run.specs.load.Allowed.{AllowedLoad}
use Rattle.pat_command_replay.specs.Allowed.{AllowedReplay}
use Rattle.pat_command_order.specs.Allowed.{AllowedOrder}
use Rattle.pat_command_verify.specs.Allowed.{AllowedVerify}
use Rattle.pat_command_checkpoint.specs.Allowed.{AllowedCheckpoint}
use Rattle.pat_command_resume.specs.Allowed.{AllowedResume}
use Rattle.pat_run.specs.declared.options.options.RunOptions.{RunOptions}
use Rattle.pat_run.specs.options.Options.{IsWithin, number_of, options_of, steps_of}
use Rattle.pat_input.specs.Inputs.{IsInputWithin, limit, whole_limit}
use Rattle.pat_limits.specs.Limits.{most_steps}
use Rattle.pat_session.specs.declared.words.Command.{Command}
use Rattle.pat_session.specs.declared.words.Command.TheVariants.{Check, Derive, Print, Run, Replay, Order, Verify, Checkpoint, Resume, Load, Help}

abbrev pub usage_line : List ℕ
usage_line = codes "usage: pat check|derive|verify|print|run|replay|order|checkpoint|resume|load|help" ++ 10 ∷ []

-- ---- words

-- from 1 to 1,000
abbrev pub up_to_thousand : Option ℕ → Option ℕ
up_to_thousand None = None
up_to_thousand (Some n) = if nat_le 1 n && nat_le n 1000 then Some n else None

-- the size of a generated program that a word spells
abbrev pub size_of : List ℕ → Option ℕ
size_of word = up_to_thousand (number_of word)

-- the words are `load`, a size, and options
pub record IsLoad (n : ℕ) (o : RunOptions) (words : List (List ℕ)) : Type 0 where
  pub number : List ℕ
  pub rest : List (List ℕ)
  pub words_are : words ≡ codes "load" ∷ number ∷ rest
  pub spelled : size_of number ≡ Some n
  pub options : options_of rest ≡ Some o

-- the words are this one, and a number of steps, if one is chosen
abbrev pub IsWithSteps : List ℕ → ℕ → List (List ℕ) → Type 0
IsWithSteps word steps words = (rest : List (List ℕ)) × (words ≡ word ∷ rest) × (steps_of rest ≡ Some steps)

-- the words ask for the command
abbrev pub IsCommand : Command → List (List ℕ) → Type 0
IsCommand Check words = words ≡ codes "check" ∷ []
IsCommand Derive words = words ≡ codes "derive" ∷ []
IsCommand Print words = words ≡ codes "print" ∷ []
IsCommand (Run o) words = (rest : List (List ℕ)) × (words ≡ codes "run" ∷ rest) × (options_of rest ≡ Some o)
IsCommand Replay words = words ≡ codes "replay" ∷ []
IsCommand Order words = words ≡ codes "order" ∷ []
IsCommand Verify words = words ≡ codes "verify" ∷ []
IsCommand (Checkpoint steps) words = IsWithSteps (codes "checkpoint") steps words
IsCommand (Resume steps) words = IsWithSteps (codes "resume") steps words
IsCommand (Load n o) words = IsLoad n o words
IsCommand Help words = words ≡ codes "help" ∷ []

-- the words are a command
abbrev pub HasCommand : List (List ℕ) → Type 0
HasCommand words = (c : Command) × IsCommand c words

-- numbers and options have their bounds
abbrev pub HasBounds : Command → Type 0
HasBounds (Run o) = IsWithin o
HasBounds (Checkpoint steps) = steps ≤ most_steps
HasBounds (Resume steps) = steps ≤ most_steps
HasBounds (Load n o) = (n ≤ 1000) × IsWithin o
HasBounds _ = Unit {0}

-- ---- inputs

-- the command has an input
abbrev pub HasInput : Command → Type 0
HasInput (Load n o) = ⊥
HasInput Help = ⊥
HasInput _ = Unit {0}

-- the words are a command that has an input
abbrev pub AsksInput : List (List ℕ) → Type 0
AsksInput words = (c : Command) × IsCommand c words × HasInput c

-- the most bytes of the command's input
abbrev pub limit_of : Command → ℕ
limit_of Check = limit
limit_of Derive = limit
limit_of Print = limit
limit_of (Run o) = limit
limit_of Replay = whole_limit
limit_of Order = whole_limit
limit_of Verify = whole_limit
limit_of (Checkpoint steps) = whole_limit
limit_of (Resume steps) = whole_limit
limit_of (Load n o) = 0
limit_of Help = 0

-- the bytes are the command's input: all that the source had, or one byte more than it may have; without an input they are none, and the
-- source is left alone
abbrev pub Takes : Command → (had left : Option (List ℕ)) → List ℕ → Type 0
Takes (Load n o) had left bytes = (left ≡ had) × (bytes ≡ [])
Takes Help had left bytes = (left ≡ had) × (bytes ≡ [])
Takes c had left bytes = IsInputWithin (limit_of c) had left bytes

-- ---- answers

-- the text and the status of the command on these bytes
abbrev pub AllowedTo : Command → List ℕ → List ℕ → Status → Type 0
AllowedTo Check bytes text status = AllowedCheck bytes text status
AllowedTo Derive bytes text status = AllowedDerive bytes text status
AllowedTo Print bytes text status = AllowedPrint bytes text status
AllowedTo (Run o) bytes text status = AllowedRun Whole o bytes text status
AllowedTo Replay bytes text status = AllowedReplay bytes text status
AllowedTo Order bytes text status = AllowedOrder bytes text status
AllowedTo Verify bytes text status = AllowedVerify bytes text status
AllowedTo (Checkpoint steps) bytes text status = AllowedCheckpoint steps bytes text status
AllowedTo (Resume steps) bytes text status = AllowedResume steps bytes text status
AllowedTo (Load n o) bytes text status = AllowedLoad n o text status
AllowedTo Help bytes text status = (status ≡ Ok) × (text ≡ usage_line)

-- the text and the status that the words and the input allow; without a command there is no input
abbrev pub Allowed : List (List ℕ) → List ℕ → List ℕ → Status → Type 0
Allowed words bytes text Usage = (HasCommand words → ⊥) × (text ≡ usage_line)
Allowed words bytes text status = (c : Command) × IsCommand c words × AllowedTo c bytes text status
