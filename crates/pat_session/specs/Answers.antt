-- What a call read and wrote, for each answer.
use Rattle.std.specs.Prelude.{◌≡◌, ◌⊎◌, ℕ, List}
use Rattle.std.specs.declared.option.Option.{Option}
use Rattle.std.specs.Io.KnownBytes.{IsAtEnd, Appends, Keeps}
use Rattle.pat_semantics_spec.specs.Programs.{Program}
use Rattle.pat_semantics_spec.specs.Faults.{IsSafe}
use Rattle.pat_parser_spec.specs.Trees.{Tree}
use Rattle.pat_print_spec.specs.Text.{canonical_text}
use Rattle.pat_ports.specs.Bytes.{AppendsFront}
use Rattle.pat_input.specs.Inputs.{IsInput, IsInputWithin, whole_limit}
use Rattle.pat_front.specs.Texts.{IsProgramText}
use Rattle.pat_front.specs.declared.verdict.Verdict.{Verdict}
use Rattle.pat_front.specs.declared.exit_answers.status.Status.{Status}
use Rattle.pat_front.specs.declared.exit_answers.status.Status.TheVariants.{Ok, Refused, Usage, ReadFault, WriteFault, NoMemory, Budget, Waiting, Full}
use Rattle.pat_run.specs.declared.options.options.RunOptions.{RunOptions}
use Rattle.pat_command_run.specs.declared.command.Detail.TheVariants.{Whole, Summary}
use Rattle.pat_command_run.specs.Allowed.{RunShows}
use Rattle.pat_load.specs.LoadText.{load_text}
use Rattle.pat_command_replay.specs.Allowed.{IsReplayed}
use Rattle.pat_command_order.specs.Allowed.{IsOrdered}
use Rattle.pat_command_verify.specs.Allowed.{IsVerified}
use Rattle.pat_command_checkpoint.specs.Allowed.{IsWritten}
use Rattle.pat_command_resume.specs.Allowed.{IsResumption}
use Rattle.pat_derivation_text_spec.specs.DerivationText.{derivation_text}
use Rattle.pat_command_check.specs.Inputs.{IsAcceptedText}
use Rattle.pat_front.specs.exit_answers.Answers.{accepted_line}
use Rattle.pat_session.specs.declared.words.Command.{Command}
use Rattle.pat_session.specs.Ports.{IsCutShort}
use Rattle.pat_session.specs.Allowed.{IsCommand, Takes, AllowedTo, Allowed, usage_line}

-- the sink took all of a text that the words and the input allow with this status
pub record Completes (words : List (List ℕ)) (had left old new : Option (List ℕ)) (status : Status) : Type 0 where
  pub bytes : List ℕ
  pub text : List ℕ
  pub input : (c : Command) → IsCommand c words → Takes c had left bytes
  pub allowed : Allowed words bytes text status
  pub written : Appends old new text

-- the sink took a front of a text that the words and the input allow, and not all of it
pub record BreaksOff (words : List (List ℕ)) (had left old new : Option (List ℕ)) : Type 0 where
  pub bytes : List ℕ
  pub text : List ℕ
  pub status : Status
  pub input : (c : Command) → IsCommand c words → Takes c had left bytes
  pub allowed : Allowed words bytes text status
  pub cut : IsCutShort old new text

-- the sink handed over a front of a text that the words and the input allow, which may be all of it
pub record Begins (words : List (List ℕ)) (had left old new : Option (List ℕ)) : Type 0 where
  pub bytes : List ℕ
  pub text : List ℕ
  pub status : Status
  pub input : (c : Command) → IsCommand c words → Takes c had left bytes
  pub allowed : Allowed words bytes text status
  pub begun : AppendsFront old new text

-- what stands for each answer
abbrev pub Answers : List (List ℕ) → Option (List ℕ) → Option (List ℕ) → Option (List ℕ) → Option (List ℕ) → Status → Type 0
Answers words had left old new WriteFault = BreaksOff words had left old new
Answers words had left old new ReadFault = Keeps old new
Answers words had left old new NoMemory = Keeps old new
Answers words had left old new Ok = Completes words had left old new Ok
Answers words had left old new Budget = Completes words had left old new Budget
Answers words had left old new Waiting = Completes words had left old new Waiting
Answers words had left old new Full = Completes words had left old new Full
Answers words had left old new (Refused verdict) = Completes words had left old new (Refused verdict)
Answers words had left old new Usage = Completes words had left old new Usage

-- the run was accepted
abbrev pub IsAccepted : Status → Type 0
IsAccepted Ok = Unit {0}
IsAccepted Budget = Unit {0}
IsAccepted Waiting = Unit {0}
IsAccepted Full = Unit {0}
IsAccepted _ = ⊥

-- a run went on, and ended or can't go further
abbrev pub WentOn : Status → Type 0
WentOn Ok = Unit {0}
WentOn Budget = Unit {0}
WentOn Waiting = Unit {0}
WentOn _ = ⊥

-- all that the source had was read, and is the text of a program with a valid derivation, so it is safe; and the sink took the line
-- that says so
pub record ShowsChecked (had left old new : Option (List ℕ)) : Type 0 where
  pub bytes : List ℕ
  pub accepted : IsAcceptedText bytes
  pub input : IsInput had left bytes
  pub whole : IsAtEnd left
  pub written : Appends old new accepted_line

-- so, and the sink took the text of the derivation
pub record ShowsDerived (had left old new : Option (List ℕ)) : Type 0 where
  pub bytes : List ℕ
  pub accepted : IsAcceptedText bytes
  pub input : IsInput had left bytes
  pub whole : IsAtEnd left
  pub written : Appends old new (derivation_text accepted.program accepted.derivation)

-- all that the source had was read, and is the text of a program that is safe
pub record AcceptsSafe (had left : Option (List ℕ)) : Type 0 where
  pub bytes : List ℕ
  pub tree : Tree
  pub program : Program
  pub input : IsInput had left bytes
  pub whole : IsAtEnd left
  pub spelled : IsProgramText bytes tree program
  pub safe : IsSafe program

-- all that the source had was read and is the text of a program that is safe, and the sink took the text of a run of it
pub record ShowsRun (options : RunOptions) (had left old new : Option (List ℕ)) (status : Status) : Type 0 where
  pub bytes : List ℕ
  pub tree : Tree
  pub program : Program
  pub text : List ℕ
  pub input : IsInput had left bytes
  pub whole : IsAtEnd left
  pub spelled : IsProgramText bytes tree program
  pub safe : IsSafe program
  pub shown : RunShows program Whole options text status
  pub written : Appends old new text

-- the generated text of this size is that of a program with a valid derivation, so it is safe; and the sink took what a run of
-- it printed, and how that ended
pub record ShowsLoad (size : ℕ) (options : RunOptions) (old new : Option (List ℕ)) (status : Status) : Type 0 where
  pub accepted : IsAcceptedText (load_text size)
  pub text : List ℕ
  pub shown : RunShows accepted.program Summary options text status
  pub written : Appends old new text

-- the sink took the line of usage, and nothing else, unless a write failed
abbrev pub IsHelped : (old new : Option (List ℕ)) → Status → Type 0
IsHelped old new status = ((status ≡ Ok) × Appends old new usage_line) ⊎ (status ≡ WriteFault)

-- all that the source had was read and is the text of a program, and the sink took the canonical text of its tree
pub record ShowsTree (had left old new : Option (List ℕ)) : Type 0 where
  pub bytes : List ℕ
  pub tree : Tree
  pub program : Program
  pub input : IsInput had left bytes
  pub whole : IsAtEnd left
  pub spelled : IsProgramText bytes tree program
  pub written : Appends old new (canonical_text tree)

-- all that the source had was read, and is the text of a program and behind it that of a history that replays; and the sink took what
-- the program printed in it, and how it stands
pub record ShowsReplay (had left old new : Option (List ℕ)) : Type 0 where
  pub bytes : List ℕ
  pub text : List ℕ
  pub input : IsInputWithin whole_limit had left bytes
  pub whole : IsAtEnd left
  pub replayed : IsReplayed bytes text
  pub written : Appends old new text

-- so, and the sink took the text of that history with its entries in order
pub record ShowsOrder (had left old new : Option (List ℕ)) : Type 0 where
  pub bytes : List ℕ
  pub text : List ℕ
  pub input : IsInputWithin whole_limit had left bytes
  pub whole : IsAtEnd left
  pub ordered : IsOrdered bytes text
  pub written : Appends old new text

-- all that the source had was read and is the text of a program, and behind it that of a derivation which is valid, so the program is
-- safe; and the sink took the line that says so
pub record ShowsVerified (had left old new : Option (List ℕ)) : Type 0 where
  pub bytes : List ℕ
  pub verified : IsVerified bytes
  pub input : IsInputWithin whole_limit had left bytes
  pub whole : IsAtEnd left
  pub written : Appends old new accepted_line

-- all that the source had was read and is the text of a program, or with those of a derivation, of a checkpoint and of a history behind it; and
-- the sink took the text of a valid derivation of it and that of the checkpoint to which a run of it leads, or the history
pub record ShowsCheckpoint (steps : ℕ) (had left old new : Option (List ℕ)) : Type 0 where
  pub bytes : List ℕ
  pub text : List ℕ
  pub input : IsInputWithin whole_limit had left bytes
  pub whole : IsAtEnd left
  pub shown : IsWritten steps bytes text
  pub written : Appends old new text

-- all that the source had was read and is the text of a program, and behind it those of a valid derivation of it and of a checkpoint that is
-- checked by it; and the sink took the text of the run that goes on from there
pub record ShowsResumed (steps : ℕ) (had left old new : Option (List ℕ)) (status : Status) : Type 0 where
  pub bytes : List ℕ
  pub text : List ℕ
  pub input : IsInputWithin whole_limit had left bytes
  pub whole : IsAtEnd left
  pub resumed : IsResumption steps bytes text status
  pub written : Appends old new text

-- the verdict is one that the command gives on what was read, and the sink took the line that says it
pub record ShowsVerdict (words : List (List ℕ)) (had left old new : Option (List ℕ)) (v : Verdict) : Type 0 where
  pub bytes : List ℕ
  pub line : List ℕ
  pub command : Command
  pub asked : IsCommand command words
  pub input : Takes command had left bytes
  pub refused : AllowedTo command bytes line (Refused v)
  pub written : Appends old new line
