-- What a call of `pat` promises.
use Rattle.std.specs.Prelude.{◌≡◌, ◌≢◌, ℕ, List}
use Rattle.std.specs.declared.option.Option.{Option}
use Rattle.pat_ports.specs.Causes.{Raised}
use Rattle.pat_ports.specs.Ends.{EndsOnce, EndsThere}
use Rattle.pat_ports.specs.declared.reach.Reach.{Reach}
use Rattle.pat_front.specs.declared.verdict.Verdict.{Verdict}
use Rattle.pat_front.specs.declared.exit_answers.status.Status.{Status}
use Rattle.pat_front.specs.declared.exit_answers.status.Status.TheVariants.{Ok, Refused, Usage, ReadFault, WriteFault}
use Rattle.pat_run.specs.declared.options.options.RunOptions.{RunOptions}
use Rattle.pat_session.specs.declared.words.Command.TheVariants.{Check, Derive, Print, Run, Replay, Order, Verify, Checkpoint, Resume, Load, Help}
use Rattle.pat_session.specs.Ports.{SourceState, SinkState, source_state, sink_state}
use Rattle.pat_session.specs.Allowed.{IsCommand, HasCommand, AsksInput}
use Rattle.pat_session.specs.Answers.{Answers, Begins, IsAccepted, WentOn, IsHelped, AcceptsSafe, ShowsChecked, ShowsDerived, ShowsLoad, ShowsRun, ShowsTree, ShowsReplay, ShowsOrder, ShowsVerified, ShowsCheckpoint, ShowsResumed, ShowsVerdict}
use Rattle.pat_session.specs.Calls.{ReadsAll, EndsOrIsTooLong, SaysUsage}
use Rattle.pat_session.specs.Complete.{AnswersSuited}

-- a call on these words, from a source before and after, to a sink before and after, with this status
pub record Promises (words : List (List ℕ)) (had left : SourceState) (old new : SinkState) (status : Status) : Type 0 where
  -- usage comes exactly where the words are no command, unless its line can't be written
  pub usage : status ≡ Usage → HasCommand words → ⊥
  pub no_command : SaysUsage words status
  -- a fault comes only where just one was counted in this call, and no other answer where one was
  pub read_fault : status ≡ ReadFault → Raised had.faults left.faults
  pub write_fault : status ≡ WriteFault → Raised old.faults new.faults
  pub no_read_fault : status ≢ ReadFault → left.faults ≡ had.faults
  pub no_write_fault : status ≢ WriteFault → new.faults ≡ old.faults
  -- nothing is read after the end of the input, and all that is before it, unless it is too long; after a write fault too
  pub one_end : EndsOnce had.reach left.reach
  pub end : AsksInput words → ReadsAll status → EndsThere had.reach left.reach
  pub end_at_fault : AsksInput words → status ≡ WriteFault → EndsOrIsTooLong words had.reach left.reach old.taken new.taken
  -- what was read and what was written, for each answer; the same of what the sink handed over, but that after a write fault this may be
  -- all of the text
  pub output : Answers words had.rest left.rest old.taken new.taken status
  pub handed : status ≢ WriteFault → Answers words had.rest left.rest old.handed new.handed status
  pub begun : status ≡ WriteFault → Begins words had.rest left.rest old.handed new.handed
  -- what was checked, and what was derived, is a program with a valid derivation, so it is safe
  pub checked : IsCommand Check words → status ≡ Ok → ShowsChecked had.rest left.rest old.taken new.taken
  pub derived : IsCommand Derive words → status ≡ Ok → ShowsDerived had.rest left.rest old.taken new.taken
  -- what an answer says of the program that was read, of its run, and of its canonical text
  pub accepted_is_safe : (options : RunOptions) → IsCommand (Run options) words → IsAccepted status → AcceptsSafe had.rest left.rest
  pub run : (options : RunOptions) → IsCommand (Run options) words → IsAccepted status → ShowsRun options had.rest left.rest old.taken new.taken status
  pub printed : IsCommand Print words → status ≡ Ok → ShowsTree had.rest left.rest old.taken new.taken
  -- what was accepted is a program with a valid derivation behind it, so it is safe
  pub verified : IsCommand Verify words → status ≡ Ok → ShowsVerified had.rest left.rest old.taken new.taken
  -- what a replay wrote: the output and the standing of just the history that was read, after the program that was read
  pub replayed : IsCommand Replay words → status ≡ Ok → ShowsReplay had.rest left.rest old.taken new.taken
  -- what an ordering wrote: the text of that history with its entries in order, which leads to the same
  pub ordered : IsCommand Order words → status ≡ Ok → ShowsOrder had.rest left.rest old.taken new.taken
  -- the texts of a valid derivation and of a checkpoint that is checked by it: where a run of the program that was read leads
  pub checkpointed : (steps : ℕ) → IsCommand (Checkpoint steps) words → status ≡ Ok → ShowsCheckpoint steps had.rest left.rest old.taken new.taken
  -- the run that goes on from the checkpoint that was read, which is checked: no steps from it reach a fault
  pub resumed : (steps : ℕ) → IsCommand (Resume steps) words → WentOn status → ShowsResumed steps had.rest left.rest old.taken new.taken status
  -- a run of the generated program, which is safe
  pub loaded : (size : ℕ) (options : RunOptions) → IsCommand (Load size options) words → IsAccepted status → ShowsLoad size options old.taken new.taken status
  -- help is the line of usage; it takes no memory
  pub helped : IsCommand Help words → IsHelped old.taken new.taken status
  -- what a refusal says of what was read
  pub refused : (v : Verdict) → status ≡ Refused v → ShowsVerdict words had.rest left.rest old.taken new.taken v
  -- an input that suits its command isn't refused: the status is the command's own, unless a port failed or memory was wanting
  pub complete : AnswersSuited words had left old new status

-- so for a source and a sink that tell this
abbrev pub PromisesOf : {S K : Type 0} → (S → Option (List ℕ)) → (S → ℕ) → (S → Option Reach) → (K → Option (List ℕ)) → (K → Option (List ℕ)) → (K → ℕ) → List (List ℕ) → S → S → K → K → Status → Type 0
PromisesOf rest read_faults reach taken handed write_faults words source_old source_new sink_old sink_new status =
    Promises words
    (source_state rest read_faults reach source_old)
    (source_state rest read_faults reach source_new)
    (sink_state taken handed write_faults sink_old)
    (sink_state taken handed write_faults sink_new)
    status
