-- What a call read of its source and wrote to its sink: all that stands for each answer.
use Rattle.std.specs.Prelude.{◌≡◌, ◌≢◌, ◌⊎◌, ℕ, ⊤, List}
use Rattle.std.specs.declared.option.Option.{Option}
use Rattle.pat_ports.specs.Ends.{EndsOnce, EndsThere}
use Rattle.pat_front.specs.declared.verdict.Verdict.TheVariants.{TooLong}
use Rattle.pat_front.specs.declared.exit_answers.status.Status.{Status}
use Rattle.pat_front.specs.declared.exit_answers.status.Status.TheVariants.{Ok, Refused, Usage, ReadFault, WriteFault, NoMemory, Budget, Waiting, Full}
use Rattle.pat_ports.specs.declared.reach.Reach.{Reach}
use Rattle.pat_session.specs.declared.words.Command.{Command}
use Rattle.pat_session.specs.Ports.{SourceState, SinkState, source_state, sink_state, Answered, IsCutShort}
use Rattle.pat_session.specs.Allowed.{IsCommand, HasCommand, AsksInput, Allowed}
use Rattle.pat_session.specs.Answers.{Answers, Begins}

-- an answer for which the whole input was read
abbrev pub ReadsAll : Status → Type 0
ReadsAll Ok = ⊤
ReadsAll Budget = ⊤
ReadsAll Waiting = ⊤
ReadsAll Full = ⊤
ReadsAll (Refused v) = v ≢ TooLong
ReadsAll Usage = ⊥
ReadsAll ReadFault = ⊥
ReadsAll WriteFault = ⊥
ReadsAll NoMemory = ⊥

-- the sink took a front of the answer that the input is too long, and not all of it
pub record BreaksOffTooLong (words : List (List ℕ)) (old new : Option (List ℕ)) : Type 0 where
  pub bytes : List ℕ
  pub text : List ℕ
  pub allowed : Allowed words bytes text (Refused TooLong)
  pub cut : IsCutShort old new text

-- the source was read to its end, unless what was broken off is that its input is too long
abbrev pub EndsOrIsTooLong : List (List ℕ) → (had left : Option Reach) → (old new : Option (List ℕ)) → Type 0
EndsOrIsTooLong words had left old new = EndsThere had left ⊎ BreaksOffTooLong words old new

-- a call on these words, from a source before and after, to a sink before and after, with this status
pub record Call (words : List (List ℕ)) (had left : SourceState) (old new : SinkState) (status : Status) : Type 0 where
  pub output : Answers words had.rest left.rest old.taken new.taken status
  pub handed : status ≢ WriteFault → Answers words had.rest left.rest old.handed new.handed status
  pub begun : status ≡ WriteFault → Begins words had.rest left.rest old.handed new.handed
  pub read : Answered ReadFault status had.faults left.faults
  pub write : Answered WriteFault status old.faults new.faults
  pub one_end : EndsOnce had.reach left.reach
  pub end : AsksInput words → ReadsAll status → EndsThere had.reach left.reach
  pub end_at_fault : AsksInput words → status ≡ WriteFault → EndsOrIsTooLong words had.reach left.reach old.taken new.taken

-- so for a source and a sink that tell this
abbrev pub CallOf : {S K : Type 0} → (S → Option (List ℕ)) → (S → ℕ) → (S → Option Reach) → (K → Option (List ℕ)) → (K → Option (List ℕ)) → (K → ℕ) → List (List ℕ) → S → S → K → K → Status → Type 0
CallOf rest read_faults reach taken handed write_faults words source_old source_new sink_old sink_new status =
    Call words
    (source_state rest read_faults reach source_old)
    (source_state rest read_faults reach source_new)
    (sink_state taken handed write_faults sink_old)
    (sink_state taken handed write_faults sink_new)
    status

-- whichever words ask for the command
abbrev pub ObeysOf : {S K : Type 0} → (S → Option (List ℕ)) → (S → ℕ) → (S → Option Reach) → (K → Option (List ℕ)) → (K → Option (List ℕ)) → (K → ℕ) → Command → S → S → K → K → Status → Type 0
ObeysOf rest read_faults reach taken handed write_faults command source_old source_new sink_old sink_new status =
    (words : List (List ℕ)) → IsCommand command words → CallOf rest read_faults reach taken handed write_faults words source_old source_new sink_old sink_new status

-- words that are no command are answered by usage, unless its line can't be written
abbrev pub SaysUsage : List (List ℕ) → Status → Type 0
SaysUsage words status = (HasCommand words → ⊥) → (status ≡ Usage) ⊎ (status ≡ WriteFault)
