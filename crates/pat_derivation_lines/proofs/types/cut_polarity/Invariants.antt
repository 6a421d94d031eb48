use Rattle.std.proofs.Common.{◌≡◌, ◌++◌, drop, take}
use Rattle.std.specs.Prelude.{option_map}
use Rattle.pat_derivation_text_spec.specs.LineReading.{cut_polarity}
use Rattle.pat_derivation_lines.proofs.types.cut_polarity.Given as goal

abbrev pub invariant-loop-i : goal.invariant-loop-i
invariant-loop-i l = option_map (λ r. (take l.i l.text ++ r.0, r.1, r.2)) (cut_polarity (drop l.i l.text)) ≡ cut_polarity l.text
