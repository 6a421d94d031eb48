-- What `checkpoint` may answer.
use Rattle.std.specs.Prelude.{◌≡◌, ◌⊎◌, ◌++◌, ℕ, List, map, Some}
use Rattle.pat_semantics_spec.specs.Programs.{Program}
use Rattle.pat_semantics_spec.specs.Configs.{Config}
use Rattle.pat_semantics_spec.specs.Steps.{Step}
use Rattle.pat_semantics_spec.specs.Faults.{Fault}
use Rattle.pat_semantics_spec.specs.Runs.{Entry, Outcome, run_from}
use Rattle.pat_derivation_spec.specs.Derivations.{Derivation, scope_of, written_typing}
use Rattle.pat_derivation_text_spec.specs.DerivationText.{derivation_text}
use Rattle.pat_reduce.specs.Views.{config_view, entry_view}
use Rattle.pat_checkpoint_run.specs.Gives.{outcome_view}
use Rattle.pat_checkpoint_run.specs.declared.resumed.Resumed.{Resumed}
use Rattle.pat_checkpoint_spec.specs.Checkpoints.{Checkpoint, interface_at}
use Rattle.pat_checkpoint_spec.specs.Resumed.{interfaces_after_history, IsResumed, start_checkpoint}
use Rattle.pat_checkpoint_spec.specs.Written.{lines_need, IsFirstUnshown}
use Rattle.pat_checkpoint.specs.Bounds.{bound_in}
use Rattle.pat_checkpoint.specs.Writing.{IsWritten as IsWrittenAs}
use Rattle.pat_checkpoint_input.specs.Pieces.{IsNoPiece, ReplaysPiece, RefusesPiece}
use Rattle.pat_front.specs.Lines.{line_of_verdict}
use Rattle.pat_front.specs.declared.verdict.Verdict.{Verdict}
use Rattle.pat_front.specs.declared.verdict.Verdict.TheVariants.{Unshown}
use Rattle.pat_front.specs.declared.exit_answers.status.Status.{Status}
use Rattle.pat_front.specs.declared.exit_answers.status.Status.TheVariants.{Ok, Refused}
use Rattle.pat_typecheck.specs.Inputs.{IsAcceptedText, IsCheckRefusal}

-- a run of one worker from the start of the program, with so many steps: where it leads, and what the mailboxes are that live there
pub record RunsTo (p : Program) (d : Derivation) (steps : ℕ) : Type 0 where
  pub entries : List Entry
  pub config : Config
  pub interfaces : List ℕ
  pub outcome : Outcome
  pub resumed : IsResumed p d (start_checkpoint p) steps entries config interfaces outcome

-- the text is that of the derivation, and then that of a checkpoint which is checked by it and is what the run leads to, but for the lines that
-- were printed; this is read as that checkpoint
pub record ShowsCheckpoint (p : Program) (d : Derivation) (steps : ℕ) (out : List ℕ) : Type 0 where
  pub run : RunsTo p d steps
  pub text : List ℕ
  pub written : IsWrittenAs p d run.config run.interfaces text
  pub shown : out ≡ derivation_text p d ++ text

-- line n of the checkpoint that the run leads to is the first that needs an inclusion which can't be shown
pub record HasUnshown (p : Program) (d : Derivation) (steps n : ℕ) : Type 0 where
  pub run : RunsTo p d steps
  pub first : IsFirstUnshown (scope_of p d) (bound_in p) (lines_need p (written_typing p d) (interface_at run.config.live run.interfaces) run.config) n

-- the bytes are the text of a program with a valid derivation, and of a run of it such a line can't be shown
abbrev pub IsUnshownRun : ℕ → List ℕ → ℕ → Type 0
IsUnshownRun steps bytes n = (a : IsAcceptedText bytes) × HasUnshown a.program a.derivation steps n

-- the bytes are the text of a program with a valid derivation, and this is its text with that of the checkpoint
abbrev pub IsWrittenRun : ℕ → List ℕ → List ℕ → Type 0
IsWrittenRun steps bytes out = (a : IsAcceptedText bytes) × ShowsCheckpoint a.program a.derivation steps out

-- why the text of a program is refused, with this line
abbrev pub IsRunRefusal : ℕ → List ℕ → Verdict → List ℕ → Type 0
IsRunRefusal steps bytes v out = IsCheckRefusal bytes v out ⊎ ((n : ℕ) × (v ≡ Unshown n) × IsUnshownRun steps bytes n × (out ≡ line_of_verdict v))

-- ---- behind a checkpoint

-- the bytes are the texts of a program, of a valid derivation of it, of a checkpoint that is checked by it, and of a history that leads from
-- there to a configuration; no steps from the checkpoint reach a fault
pub record LeadsFrom (bytes : List ℕ) : Type 0 where
  pub program : Program
  pub shown : Derivation
  pub from : Checkpoint
  pub entries : List Entry
  pub config : Config
  pub replays : ReplaysPiece bytes program shown from entries config
  pub safe : (ks : List Step) (last : Config) → run_from program from.config ks ≡ Some last → Fault program last → ⊥

-- the interface of each mailbox that is live there: that in the checkpoint, or that of the `new` which made it
abbrev pub interfaces_there : {bytes : List ℕ} → LeadsFrom bytes → List ℕ
interfaces_there l = interfaces_after_history l.program l.from l.entries l.config

-- and the text is that of the derivation, and then that of a checkpoint which is checked by it and is where the history leads, but for the
-- lines that were printed; this is read as that checkpoint
pub record IsWrittenPiece (bytes out : List ℕ) : Type 0 where
  pub leads : LeadsFrom bytes
  pub text : List ℕ
  pub written : IsWrittenAs leads.program leads.shown leads.config (interfaces_there leads) text
  pub shown : out ≡ derivation_text leads.program leads.shown ++ text

-- line n of the checkpoint that the history leads to is the first that needs an inclusion which can't be shown
pub record IsUnshownPiece (bytes : List ℕ) (n : ℕ) : Type 0 where
  pub leads : LeadsFrom bytes
  pub first : IsFirstUnshown (scope_of leads.program leads.shown) (bound_in leads.program) (lines_need leads.program (written_typing leads.program leads.shown) (interface_at leads.config.live (interfaces_there leads)) leads.config) n

-- why they are refused, with this line
abbrev pub IsPieceRefusal : List ℕ → Verdict → List ℕ → Type 0
IsPieceRefusal bytes v out = (RefusesPiece bytes v ⊎ ((n : ℕ) × (v ≡ Unshown n) × IsUnshownPiece bytes n)) × (out ≡ line_of_verdict v)

-- ---- whole inputs

-- this is written: of a history that goes on from a checkpoint, where marks of both stand in the bytes, and else of a run of the program
abbrev pub IsWritten : ℕ → List ℕ → List ℕ → Type 0
IsWritten steps bytes out = (IsNoPiece bytes × IsWrittenRun steps bytes out) ⊎ IsWrittenPiece bytes out

-- such a line can't be shown
abbrev pub IsUnshown : ℕ → List ℕ → ℕ → Type 0
IsUnshown steps bytes n = (IsNoPiece bytes × IsUnshownRun steps bytes n) ⊎ IsUnshownPiece bytes n

-- why the bytes are refused, with this line
abbrev pub IsCheckpointRefusal : ℕ → List ℕ → Verdict → List ℕ → Type 0
IsCheckpointRefusal steps bytes v out = (IsNoPiece bytes × IsRunRefusal steps bytes v out) ⊎ IsPieceRefusal bytes v out

-- the text and the status of `checkpoint` with so many steps on these bytes
abbrev pub AllowedCheckpoint : ℕ → List ℕ → List ℕ → Status → Type 0
AllowedCheckpoint steps bytes out Ok = IsWritten steps bytes out
AllowedCheckpoint steps bytes out (Refused v) = IsCheckpointRefusal steps bytes v out
AllowedCheckpoint steps bytes out _ = ⊥

-- ---- parts of an answer

-- what is answered of the text of a program alone
abbrev pub AllowedRun : ℕ → List ℕ → List ℕ → Status → Type 0
AllowedRun steps bytes out Ok = IsWrittenRun steps bytes out
AllowedRun steps bytes out (Refused v) = IsRunRefusal steps bytes v out
AllowedRun steps bytes out _ = ⊥

-- and of a history behind a checkpoint
abbrev pub AllowedPiece : List ℕ → List ℕ → Status → Type 0
AllowedPiece bytes out Ok = IsWrittenPiece bytes out
AllowedPiece bytes out (Refused v) = IsPieceRefusal bytes v out
AllowedPiece bytes out _ = ⊥

-- what is answered of an accepted program
abbrev pub AnswersProgram : Program → Derivation → ℕ → List ℕ → Status → Type 0
AnswersProgram p d steps out Ok = ShowsCheckpoint p d steps out
AnswersProgram p d steps out (Refused v) = (n : ℕ) × (v ≡ Unshown n) × HasUnshown p d steps n × (out ≡ line_of_verdict v)
AnswersProgram p d steps out _ = ⊥

-- what is answered of a configuration, of which each live mailbox has one of these interfaces
abbrev pub AnswersAt : Program → Derivation → Config → List ℕ → List ℕ → Status → Type 0
AnswersAt p d c interfaces out Ok = (text : List ℕ) × IsWrittenAs p d c interfaces text × (out ≡ derivation_text p d ++ text)
AnswersAt p d c interfaces out (Refused v) =
    (n : ℕ)
    × (v ≡ Unshown n)
    × IsFirstUnshown (scope_of p d) (bound_in p) (lines_need p (written_typing p d) (interface_at c.live interfaces) c) n
    × (out ≡ line_of_verdict v)
AnswersAt p d c interfaces out _ = ⊥

-- where a run from the start with so many steps led
abbrev pub HasReached : Program → Derivation → ℕ → Resumed → Type 0
HasReached p d steps r =
    IsResumed p d (start_checkpoint p) steps (map entry_view r.entries) (config_view r.config) r.interfaces (outcome_view r.outcome)
