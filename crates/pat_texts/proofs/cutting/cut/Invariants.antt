use Rattle.std.proofs.Common.{◌≡◌, ◌++◌, drop, take}
use Rattle.std.specs.Prelude.{option_map}
use Rattle.pat_texts_spec.specs.Joined.{cut}
use Rattle.pat_texts.proofs.cutting.cut.Given as goal

abbrev pub invariant-loop-i : goal.invariant-loop-i
invariant-loop-i l = option_map (λ r. (take l.i l.text ++ r.0, r.1)) (cut l.byte (drop l.i l.text)) ≡ cut l.byte l.text
