-- What a call reads of its source and gives to its sink.
use Rattle.std.specs.Prelude.{◌≡◌, ◌≢◌, ◌⊎◌, ◌<◌, ℕ, List, length, take, MatchResult, Result}
use Rattle.std.specs.declared.option.Option.{Option}
use Rattle.std.specs.Io.KnownBytes.{Appends}
use Rattle.pat_ports.specs.Causes.{Raised}
use Rattle.pat_ports.specs.Bytes.{AppendsFront}
use Rattle.pat_ports.specs.declared.reach.Reach.{Reach}
use Rattle.pat_front.specs.declared.exit_answers.status.Status.{Status}
use Rattle.pat_front.specs.declared.exit_answers.status.Status.TheVariants.{WriteFault}

-- what a source tells: the bytes left, how often it failed, and how far it was read
pub record SourceState : Type 0 where
  pub rest : Option (List ℕ)
  pub faults : ℕ
  pub reach : Option Reach

abbrev pub source_state : {S : Type 0} → (S → Option (List ℕ)) → (S → ℕ) → (S → Option Reach) → S → SourceState
source_state rest faults reach s = record { rest = rest s; faults = faults s; reach = reach s }

-- what a sink tells: the bytes taken, the bytes handed over, and how often it failed
pub record SinkState : Type 0 where
  pub taken : Option (List ℕ)
  pub handed : Option (List ℕ)
  pub faults : ℕ

abbrev pub sink_state : {K : Type 0} → (K → Option (List ℕ)) → (K → Option (List ℕ)) → (K → ℕ) → K → SinkState
sink_state taken handed faults s = record { taken = taken s; handed = handed s; faults = faults s }

-- the sink took a front of the text that isn't all of it
abbrev pub IsCutShort : Option (List ℕ) → Option (List ℕ) → List ℕ → Type 0
IsCutShort old new text = (n : ℕ) × (n < length text) × Appends old new (take n text)

-- all of the text was handed over, and at an `Err` some front of it
abbrev pub HandsAll : {T E : Type 0} → Option (List ℕ) → Option (List ℕ) → Result T E → List ℕ → Type 0
HandsAll old new r text = MatchResult r (λ _. Appends old new text) (λ _. AppendsFront old new text)

-- all of the text was written, with its status, or a front of it, with the write fault
abbrev pub Written : Option (List ℕ) → Option (List ℕ) → List ℕ → Status → Status → Type 0
Written old new text status result = ((result ≡ status) × Appends old new text) ⊎ ((result ≡ WriteFault) × IsCutShort old new text)

-- the fault is answered exactly where one more was counted
pub record Answered (fault status : Status) (before now : ℕ) : Type 0 where
  pub failed : status ≡ fault → Raised before now
  pub unfailed : status ≢ fault → now ≡ before

-- what a sink tells of the writing of a text
pub record Writes (old new : SinkState) (text : List ℕ) (status result : Status) : Type 0 where
  pub written : Written old.taken new.taken text status result
  pub handed : result ≢ WriteFault → Appends old.handed new.handed text
  pub begun : result ≡ WriteFault → AppendsFront old.handed new.handed text
  pub faults : Answered WriteFault result old.faults new.faults
