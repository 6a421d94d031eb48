use Rattle.std.proofs.Common.{◌≡◌, map}
use Rattle.pat_derivations.specs.Views.{counts_of}
use Rattle.pat_derivation_text_spec.specs.LineReading.{read_point}
use Rattle.pat_texts_spec.specs.Joined.{pieces, read_each, then_read}
use Rattle.pat_texts.specs.Pieces.{pieces_left, left}
use Rattle.pat_deriv.proofs.nodes.grids.read_points.Given as goal

abbrev pub invariant-loop-rest : goal.invariant-loop-rest
invariant-loop-rest l = then_read (map counts_of l.points) (read_each (read_point l.tags) (pieces_left 32 l.rest)) ≡ read_each (read_point l.tags) (pieces 32 l.text)

abbrev pub decreases-loop-rest : goal.decreases-loop-rest
decreases-loop-rest l = left l.rest
