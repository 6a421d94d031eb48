use Rattle.std.proofs.Common.{◌≡◌, ◌+◌, drop}
use Rattle.std.specs.Prelude.{option_map}
use Rattle.pat_derivation_text_spec.specs.patterns.PatternReading.{place_of}
use Rattle.pat_derivation_lines.specs.patterns.Views.{names_of}
use Rattle.pat_derivation_lines.proofs.patterns.words.place_of.Given as goal

abbrev pub invariant-loop-i : goal.invariant-loop-i
invariant-loop-i l = option_map (λ k. l.i + k) (place_of l.name (names_of (drop l.i l.tags))) ≡ place_of l.name (names_of l.tags)
