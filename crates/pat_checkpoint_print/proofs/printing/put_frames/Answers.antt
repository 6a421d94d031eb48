use Rattle.std.proofs.Common.{◌≡◌, ◌<◌, ◌++◌, ◌+◌, length, drop, map, reverse, sym, ap, ◌∙◌, append_assoc, arith}
use Rattle.std.specs.Prelude.{option_copied}
use Rattle.std.proofs.lemmas.List.{length-reverse}
use Rattle.std.proofs.lemmas.Option.{get_or_from_slice_get}
use Rattle.pat_reduce.specs.threads.ThreadViews.{frame_view}
use Rattle.pat_checkpoint_data.specs.Views.{end_view}
use Rattle.pat_checkpoint_spec.specs.text.CheckpointText.{line, frame_text}
use Rattle.pat_checkpoint_laws.specs.text.Readable.{is_cert}
use Rattle.pat_checkpoint_print.specs.Ranges.{frame_in_range}
use Rattle.pat_checkpoint_print.specs.Upwards.{frames_upwards}
use Rattle.pat_checkpoint_print.proofs.Parts.{row_from}
use Rattle.pat_checkpoint_print.proofs.Turned.{next_line, next_of}
use Rattle.pat_checkpoint_print.proofs.printing.put_frames.Goals as goal

pub loop-place-preserved : goal.loop-place-preserved
loop-place-preserved c =
    let frames = c.args.frames.now in
    let ends = reverse c.args.certs.now.frames in
    let i = c.loop-place.place in
    let f = c.index-frames-place.result in
    let k = option_copied c.frame.result in
    let count : length ends ≡ length c.args.certs.now.frames = length-reverse c.args.certs.now.frames in
    let same : length c.args.certs.now.frames ≡ length frames = c.requires in
    let less : i < length frames = c.loop-place-test.true in
    let own = row_from frames i f less c.index-frames-place.is in
    let cert = row_from ends i k (omega arith) (sym (get_or_from_slice_get ends i k k c.frame.ensures)) in
    let rest = frames_upwards (map frame_view (drop (i + 1) frames)) (map end_view (drop (i + 1) ends)) in
    let old = c.loop-place.out.items in
    let put = c.in_ok-put_frame.ensures in
    record {
      text =
          ap (λ l. l ++ rest) put.text
          ∙ append_assoc old (line (frame_text (record { frame = frame_view f; cert = end_view k }))) rest
          ∙ ap (λ l. old ++ l) (sym (next_line frames ends i f k own cert))
          ∙ c.loop-place.invariant.text;
      frames = next_of frame_in_range frame_view frames i f own put.range.0 ∙ c.loop-place.invariant.frames;
      certs = next_of is_cert end_view ends i k cert put.range.1 ∙ c.loop-place.invariant.certs;
    }
