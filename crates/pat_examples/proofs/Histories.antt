-- Runs of the programs, computed.
use Rattle.std.proofs.Common.{List, [], ◌∷◌, refl, Some, None}
use Rattle.std.specs.Prelude.{unwrap_or, pos}
use Rattle.std.specs.Fmt.{signed_decimal}
use Rattle.pat_semantics_spec.specs.Programs.{Program, is_free}
use Rattle.pat_semantics_spec.specs.Configs.{Config, start}
use Rattle.pat_semantics_spec.specs.Runs.{Entry, replay, EndDone, EndWaiting, EndFull}
use Rattle.pat_examples.specs.safety.Safe.{future, future_history, swap, swap_history, crossed, crossed_history, turned, turned_history, turned_start, EndsAs}

-- where the history leads to, if it is one of the program
abbrev led_to : Program → List Entry → Config
led_to p es = unwrap_or (replay p es) (start p)

-- the reply is printed, and nothing is left
pub future_ends : EndsAs future future_history None 34 EndDone (signed_decimal (pos 5) ∷ []) [] []
unfolding is_free
future_ends = record { count = refl; last = led_to future future_history; leads = refl; ends = refl; lines = refl; left = refl; remain = refl }

-- the two mailboxes are left, in one another's messages
pub swap_ends : EndsAs swap swap_history None 11 EndDone [] (0 ∷ 1 ∷ []) []
unfolding is_free
swap_ends = record { count = refl; last = led_to swap swap_history; leads = refl; ends = refl; lines = refl; left = refl; remain = refl }

-- both threads that were spawned wait
pub crossed_ends : EndsAs crossed crossed_history None 13 EndWaiting [] (0 ∷ 1 ∷ []) (1 ∷ 2 ∷ [])
unfolding is_free
crossed_ends = record { count = refl; last = led_to crossed crossed_history; leads = refl; ends = refl; lines = refl; left = refl; remain = refl }

-- the later message is received first
pub turned_ends : EndsAs turned turned_history None 13 EndDone [] [] []
unfolding is_free
turned_ends = record { count = refl; last = led_to turned turned_history; leads = refl; ends = refl; lines = refl; left = refl; remain = refl }

-- where just one message may be pending, the second send is held back
pub turned_held : EndsAs turned turned_start (Some 1) 7 EndFull [] (0 ∷ []) (0 ∷ [])
unfolding is_free
turned_held = record { count = refl; last = led_to turned turned_start; leads = refl; ends = refl; lines = refl; left = refl; remain = refl }
