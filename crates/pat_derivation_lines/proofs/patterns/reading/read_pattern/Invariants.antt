use Rattle.std.proofs.Common.{◌≡◌, length}
use Rattle.pat_derivation_text_spec.specs.patterns.PatternReading.{run, read_pattern}
use Rattle.pat_derivation_lines.specs.patterns.Views.{names_of, stage_view}
use Rattle.pat_derivation_lines.proofs.patterns.reading.read_pattern.Given as goal

abbrev pub invariant-loop-rest : goal.invariant-loop-rest
invariant-loop-rest l = run (length l.rest) (names_of l.tags) (stage_view l.stage) l.rest ≡ read_pattern (names_of l.tags) l.text

abbrev pub decreases-loop-rest : goal.decreases-loop-rest
decreases-loop-rest l = length l.rest
