use Rattle.std.proofs.Common.{rules, ◌∙◌}
use Rattle.pat_core.specs.Views.{program_view}
use Rattle.pat_types.specs.Views.{needs_view}
use Rattle.pat_derivation_text_spec.specs.LineReading.{read_next}
use Rattle.pat_texts_spec.specs.Joined.{pieces, read_each, then_read}
use Rattle.pat_texts_spec.proofs.Cutting.{turn}
use Rattle.pat_texts.specs.Pieces.{pieces_left}
use Rattle.pat_derivation_lines.proofs.Lasts.{is_last}
use Rattle.pat_derivation_lines.proofs.types.read_others.Goals as goal

pub loop-rest-preserved : goal.loop-rest-preserved
loop-rest-preserved c =
    let p = program_view c.args.names.now.program.now in
    let added = c.in_ok-last.ensures in
    let old = needs_view c.loop-rest.needs in
    let new = needs_view c.push_named.new.needs in
    let whole = then_read (needs_view c.args.needs) (read_each (read_next p) (pieces_left 44 c.args.others)) in
    record {
      reads = turn (read_next p) old new c.first_piece.result.0.now (pieces_left 44 c.first_piece.result.1) (pieces 44 c.in-Some.more.now) added.0 whole (c.cut_next.ensures p ∙ added.1) c.first_piece.ensures.pieces added.2 (search rules);
      last = is_last p old new added.0 c.in_ok-last.last.now added.2 added.3;
    }
