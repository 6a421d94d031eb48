use Rattle.std.proofs.Common.{◌≡◌, ◌++◌, drop, map, reverse}
use Rattle.std.specs.List.{list_all}
use Rattle.pat_reduce.specs.threads.ThreadViews.{frame_view}
use Rattle.pat_checkpoint_data.specs.Views.{end_view}
use Rattle.pat_checkpoint_laws.specs.text.Readable.{is_cert}
use Rattle.pat_checkpoint_print.specs.Ranges.{frame_in_range}
use Rattle.pat_checkpoint_print.specs.Upwards.{frames_upwards}
use Rattle.pat_checkpoint_print.proofs.printing.put_frames.Given as goal

abbrev pub invariant-loop-place : goal.invariant-loop-place
invariant-loop-place l = record {
  text : l.out.items ++ frames_upwards (map frame_view (drop l.place l.frames)) (map end_view (drop l.place (reverse l.certs.frames))) ≡ l.initial.out.items ++ frames_upwards (map frame_view l.frames) (map end_view (reverse l.certs.frames));
  frames : list_all frame_in_range (map frame_view (drop l.place l.frames)) ≡ list_all frame_in_range (map frame_view l.frames);
  certs : list_all is_cert (map end_view (drop l.place (reverse l.certs.frames))) ≡ list_all is_cert (map end_view (reverse l.certs.frames));
}
