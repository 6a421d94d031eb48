-- How far a source was read, after one read more.
use Rattle.std.proofs.Common.{◌≡◌, Bool, true, false, Option, Some, None, ap, sym, ◌∙◌}
use Rattle.std.specs.Prelude.{◌≢◌}
use Rattle.pat_ports.specs.declared.reach.Reach.{Reach}
use Rattle.pat_ports.specs.declared.reach.Reach.TheVariants.{Before, AtEnd, Past}
use Rattle.pat_ports.specs.Ends.{ReachesBy, EndsOnce, EndsThere, StaysBefore}

pub stays : (old mid new : Option Reach) → StaysBefore old mid → ReachesBy mid new false → StaysBefore old new
stays old None new s r = λ is. let clash = s is in cc
stays old (Some Before) None s r = λ is. absurd r
stays old (Some Before) (Some b) s r = λ is. ap Some r
stays old (Some AtEnd) new s r = λ is. let clash = s is in cc
stays old (Some Past) new s r = λ is. let clash = s is in cc

pub ends_there : (old mid new : Option Reach) → StaysBefore old mid → ReachesBy mid new true → EndsThere old new
ends_there old None new s r = λ is. let clash = s is in cc
ends_there old (Some Before) None s r = λ is. absurd r
ends_there old (Some Before) (Some b) s r = λ is. ap Some r
ends_there old (Some AtEnd) new s r = λ is. let clash = s is in cc
ends_there old (Some Past) new s r = λ is. let clash = s is in cc

pub not_past : (old new : Option Reach) → StaysBefore old new → EndsOnce old new
not_past old new s = λ is past. let clash = sym (s is) ∙ past in cc

pub there_once : (old new : Option Reach) → EndsThere old new → EndsOnce old new
there_once old new s = λ is past. let clash = sym (s is) ∙ past in cc

pub ends_once : (old mid new : Option Reach) (end : Bool) → StaysBefore old mid → ReachesBy mid new end → EndsOnce old new
ends_once old mid new true s r = there_once old new (ends_there old mid new s r)
ends_once old mid new false s r = not_past old new (stays old mid new s r)
