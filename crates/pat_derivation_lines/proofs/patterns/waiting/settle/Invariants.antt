use Rattle.std.proofs.Common.{◌≡◌, length}
use Rattle.pat_derivation_text_spec.specs.patterns.PatternReading.{settled}
use Rattle.pat_derivation_lines.specs.patterns.Views.{ops_view, parts_view}
use Rattle.pat_derivation_lines.proofs.patterns.waiting.settle.Given as goal

abbrev pub invariant-loop-parts : goal.invariant-loop-parts
invariant-loop-parts l = settled (ops_view l.ops) (parts_view l.parts) ≡ settled (ops_view l.initial.ops) (parts_view l.initial.parts)

abbrev pub decreases-loop-parts : goal.decreases-loop-parts
decreases-loop-parts l = length l.ops
