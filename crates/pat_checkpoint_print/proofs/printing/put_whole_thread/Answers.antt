use Rattle.std.proofs.Common.{[], ◌++◌, map, reverse, sym, ap, ◌∙◌}
use Rattle.std.specs.List.{list_all}
use Rattle.std.proofs.lemmas.Bool.{and_from}
use Rattle.std.proofs.lemmas.List.{reverse-reverse}
use Rattle.pat_texts_spec.specs.Numbers.{is_number}
use Rattle.pat_reduce.specs.threads.ThreadViews.{control_view, frame_view}
use Rattle.pat_checkpoint_data.specs.Views.{end_view}
use Rattle.pat_checkpoint_spec.specs.text.Lines.{frame_lines}
use Rattle.pat_checkpoint_spec.specs.text.CheckpointText.{line, thread_text, frames_text}
use Rattle.pat_checkpoint_laws.specs.text.Readable.{is_cert}
use Rattle.pat_checkpoint_print.specs.Ranges.{control_in_range, frame_in_range}
use Rattle.pat_checkpoint_print.specs.Upwards.{frames_upwards}
use Rattle.pat_checkpoint_print.proofs.Turned.{frames_turned, all_of}
use Rattle.pat_checkpoint_print.proofs.Rows.{also, joined}
use Rattle.pat_checkpoint_print.proofs.printing.put_whole_thread.Goals as goal

pub returns-clause-text : goal.returns-clause-text
returns-clause-text c =
    let own = c.args.state.now in
    let certs = c.args.certs.now in
    let turned = frames_turned c.as_slice.result.now own.frames (reverse certs.frames) certs.frames c.as_slice.ensures (reverse-reverse certs.frames) c.requires in
    also c.put_frames.result
    (joined c.args.out.now.items c.put_thread.new.out.items c.put_frames.new.out.items
    (line (thread_text (record { number = c.args.number; control = control_view own.control; cert = end_view certs.control; frames = [] })))
    (frames_upwards (map frame_view c.as_slice.result.now) (map end_view (reverse certs.frames)))
    (frames_text (frame_lines (map frame_view own.frames) (map end_view certs.frames)))
    (c.in_ok-put_thread.ensures.text ∙ ap (λ o. c.args.out.now.items ++ line (thread_text (record { number = c.args.number; control = control_view own.control; cert = end_view o; frames = [] }))) c.control.ensures) turned)
    c.put_frames.ensures.text

pub returns-clause-range : goal.returns-clause-range
returns-clause-range c =
    let own = c.in_ok-put_thread.ensures.range in
    let k = control_in_range (control_view c.args.state.now.control) in
    let fs = list_all frame_in_range (map frame_view c.args.state.now.frames) in
    also c.put_frames.result
    (λ h. (
      and_from (is_number c.args.number) _ own.0 (and_from k fs own.1 (all_of frame_in_range frame_view c.as_slice.result.now c.args.state.now.frames c.as_slice.ensures h.0)),
      and_from (is_cert (end_view c.args.certs.now.control)) (list_all is_cert (map end_view c.args.certs.now.frames)) (sym (ap (λ o. is_cert (end_view o)) c.control.ensures) ∙ own.2) (all_of is_cert end_view (reverse c.args.certs.now.frames) c.args.certs.now.frames (reverse-reverse c.args.certs.now.frames) h.1),
    ))
    c.put_frames.ensures.range
