-- What every command may answer, whichever it is.
use Rattle.std.specs.Prelude.{◌≡◌, ◌≢◌, ◌≤◌, ℕ, List, [], ◌∷◌, ◌++◌, length, codes}
use Rattle.pat_input.specs.Inputs.{limit}
use Rattle.pat_front.specs.Lines.{line_of_verdict, line_with}
use Rattle.pat_front.specs.Texts.{IsRefusal}
use Rattle.pat_front.specs.declared.verdict.Verdict.{Verdict}
use Rattle.pat_front.specs.declared.verdict.Verdict.TheVariants.{TooLong}
use Rattle.pat_front.specs.declared.exit_answers.status.Status.{Status}
use Rattle.pat_front.specs.declared.exit_answers.status.Status.TheVariants.{Ok, Refused, Usage, ReadFault, WriteFault, NoMemory, Budget, Waiting, Full}

abbrev pub accepted_line : List ℕ
accepted_line = codes "accepted" ++ 10 ∷ []

-- the text is the line that accepts
abbrev pub SaysAccepted : List ℕ → Status → Type 0
SaysAccepted text status = (status ≡ Ok) × (text ≡ accepted_line)

-- the text is the line of the verdict, and the status its refusal
abbrev pub SaysVerdict : Verdict → List ℕ → Status → Type 0
SaysVerdict v text status = (status ≡ Refused v) × (text ≡ line_of_verdict v)

-- so with more words behind the verdict's own
abbrev pub SaysVerdictWith : Verdict → List ℕ → List ℕ → Status → Type 0
SaysVerdictWith v more text status = (status ≡ Refused v) × (text ≡ line_with v more)

-- the text and the status refuse the bytes by a verdict that they deserve
abbrev pub Refuses : List ℕ → List ℕ → Status → Type 0
Refuses bytes text status = (v : Verdict) × IsRefusal bytes v × SaysVerdict v text status

-- a status that a command may answer on these bytes, of which there may be so many: no fault, no want of memory, and only a
-- verdict on their number where they are too many
abbrev pub IsStatusWithin : ℕ → List ℕ → Status → Type 0
IsStatusWithin most bytes Ok = length bytes ≤ most
IsStatusWithin most bytes Budget = length bytes ≤ most
IsStatusWithin most bytes Waiting = length bytes ≤ most
IsStatusWithin most bytes Full = length bytes ≤ most
IsStatusWithin most bytes (Refused v) = v ≢ TooLong → length bytes ≤ most
IsStatusWithin most bytes Usage = ⊥
IsStatusWithin most bytes ReadFault = ⊥
IsStatusWithin most bytes WriteFault = ⊥
IsStatusWithin most bytes NoMemory = ⊥

-- of a command whose input is a program
abbrev pub IsCommandStatus : List ℕ → Status → Type 0
IsCommandStatus bytes s = IsStatusWithin limit bytes s
