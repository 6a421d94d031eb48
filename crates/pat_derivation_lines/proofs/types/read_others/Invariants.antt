use Rattle.std.proofs.Common.{◌≡◌}
use Rattle.pat_core.specs.Views.{program_view}
use Rattle.pat_types.specs.Views.{needs_view}
use Rattle.pat_derivation_text_spec.specs.LineReading.{read_next}
use Rattle.pat_texts_spec.specs.Joined.{read_each, then_read}
use Rattle.pat_texts.specs.Pieces.{pieces_left, left}
use Rattle.pat_derivation_lines.specs.Needs.{IsLast}
use Rattle.pat_derivation_lines.proofs.types.read_others.Given as goal

abbrev pub invariant-loop-rest : goal.invariant-loop-rest
invariant-loop-rest l = record {
  reads : then_read (needs_view l.needs) (read_each (read_next (program_view l.names.program.now)) (pieces_left 44 l.rest)) ≡ then_read (needs_view l.initial.needs) (read_each (read_next (program_view l.names.program.now)) (pieces_left 44 l.others));
  last : IsLast (program_view l.names.program.now) (needs_view l.needs) l.last;
}

abbrev pub decreases-loop-rest : goal.decreases-loop-rest
decreases-loop-rest l = left l.rest
