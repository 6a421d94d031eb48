use Rattle.std.proofs.Common.{◌≡◌, ◌++◌, drop, take}
use Rattle.std.specs.Prelude.{option_map}
use Rattle.pat_checkpoint_spec.specs.text.Outside.{cut_from, cut_outside}
use Rattle.pat_checkpoint_text.specs.Places.{place_view}
use Rattle.pat_checkpoint_text.proofs.outside.cut_outside.Given as goal

abbrev pub invariant-loop-i : goal.invariant-loop-i
invariant-loop-i l = option_map (λ r. (take l.i l.text ++ r.0, r.1)) (cut_from (place_view l.place) l.byte (drop l.i l.text)) ≡ cut_outside l.byte l.text
