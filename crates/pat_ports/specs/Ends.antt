-- How far a source was read, where it tells it: before its end, to its end, or past it.
use Rattle.std.specs.Prelude.{◌≡◌, ◌≢◌, ◌&&◌, ℕ, Bool, true, false, not, nat_eq, ⊤, None, Some, List, length, Result}
use Rattle.std.specs.declared.option.Option.{Option}
use Rattle.std.specs.declared.result.Result.TheVariants.{Ok, Err}
use Rattle.pat_ports.specs.declared.reach.Reach.{Reach}
use Rattle.pat_ports.specs.declared.reach.Reach.TheVariants.{Before, AtEnd, Past}

-- the read answers no bytes to a buffer that has room: the end of the input
abbrev pub is_end : {E : Type 0} → Result ℕ E → List ℕ → Bool
is_end (Ok n) buffer = nat_eq n 0 && not (nat_eq (length buffer) 0)
is_end (Err e) buffer = false

-- after one read more, which was answered the end or not
abbrev pub reach_after : Reach → Bool → Reach
reach_after Before true = AtEnd
reach_after Before false = Before
reach_after AtEnd answer = Past
reach_after Past answer = Past

-- what a source tells of one read more, which was answered the end or not
abbrev pub ReachesBy : Option Reach → Option Reach → Bool → Type 0
ReachesBy None new answer = ⊤
ReachesBy (Some a) None answer = ⊥
ReachesBy (Some a) (Some b) answer = b ≡ reach_after a answer

-- what a source tells of the read that was answered so
abbrev pub Reaches : {E : Type 0} → Option Reach → Option Reach → Result ℕ E → List ℕ → Type 0
Reaches old new r buffer = ReachesBy old new (is_end r buffer)

-- a source of which no end was read is read to its end at most: nothing is read after the first answer of no bytes
abbrev pub EndsOnce : Option Reach → Option Reach → Type 0
EndsOnce old new = old ≡ Some Before → new ≢ Some Past

-- a source of which no end was read is read to its end, and no further
abbrev pub EndsThere : Option Reach → Option Reach → Type 0
EndsThere old new = old ≡ Some Before → new ≡ Some AtEnd

-- a source of which no end was read isn't read to its end
abbrev pub StaysBefore : Option Reach → Option Reach → Type 0
StaysBefore old new = old ≡ Some Before → new ≡ Some Before
