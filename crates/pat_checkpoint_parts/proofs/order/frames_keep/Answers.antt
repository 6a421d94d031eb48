use Rattle.std.proofs.Common.{◌≡◌, true, ◌&&◌, ◌||◌, take, map, reverse, sym, ap, ◌∙◌, subst}
use Rattle.pat_semantics_spec.specs.Configs.{Frame, env_refers}
use Rattle.pat_type_system_spec.specs.Holdings.{held}
use Rattle.pat_type_system_spec.specs.Typed.{frames_refer, mailboxes_of}
use Rattle.pat_reduce_values.specs.ValueViews.{env_view}
use Rattle.pat_reduce.specs.threads.ThreadViews.{frame_view}
use Rattle.pat_checkpoint_spec.specs.Numbers.{env_lives}
use Rattle.pat_checkpoint_spec.specs.Mailboxes.{env_differs, values_of, keeps_from, frames_keep}
use Rattle.pat_checkpoint_numbers.specs.Marked.{is_marked}
use Rattle.pat_checkpoint_numbers.proofs.Reversed.{one_more}
use Rattle.pat_checkpoint_parts.specs.Keeping.{keeps_marked}
use Rattle.pat_checkpoint_parts.specs.Typed.{typing_in}
use Rattle.pat_checkpoint_parts.proofs.Keeps.{keeps_same}
use Rattle.pat_checkpoint_parts.proofs.Turns.{all_here}
use Rattle.pat_checkpoint_parts.proofs.order.frames_keep.Goals as goal
use Rattle.pat_checkpoint_parts.proofs.order.frames_keep.Goals.{then-part_keeps, else-part_keeps}

pub part_keeps-requires-clause-live : goal.part_keeps-requires-clause-live
part_keeps-requires-clause-live c =
    let live = c.args.marks.now.live.now in
    subst (λ l. env_lives l (env_view c.as_slice-env.result.now) ≡ true) (sym c.loop-frame.invariant.live)
    (ap (λ l. env_lives live (env_view l)) c.as_slice-env.ensures
    ∙ all_here (λ (f : Frame). env_lives live f.env) frame_view c.args.frames.now c.loop-frame.frame-index c.frame-item.result c.loop-frame-test.true c.frame-item.is c.requires.live)

pub part_keeps-requires-clause-differ : goal.part_keeps-requires-clause-differ
part_keeps-requires-clause-differ c =
    ap (λ l. env_differs (env_view l)) c.as_slice-env.ensures
    ∙ all_here (λ (f : Frame). env_differs f.env) frame_view c.args.frames.now c.loop-frame.frame-index c.frame-item.result c.loop-frame-test.true c.frame-item.is c.requires.differ

pub mark_all-requires : goal.mark_all-requires
mark_all-requires c =
    let live = c.args.marks.now.live.now in
    subst (λ l. env_lives l (env_view c.as_slice-env.result.now) ≡ true) (sym c.loop-frame.invariant.live)
    (ap (λ l. env_lives live (env_view l)) c.as_slice-env.ensures
    ∙ all_here (λ (f : Frame). env_lives live f.env) frame_view c.args.frames.now c.loop-frame.frame-index c.frame-item.result c.loop-frame-test.true c.frame-item.is c.requires.live)

pub loop-frame-preserved : goal.loop-frame-preserved
loop-frame-preserved c =
    let y = typing_in c.args.typing.now in
    let frames = c.args.frames.now in
    let i = c.loop-frame.frame-index in
    let f = c.frame-item.result in
    let m = is_marked c.loop-frame.marks in
    let below = map frame_view (reverse (take i frames)) in
    let more = one_more frames i f c.loop-frame-test.true c.frame-item.is in
    let this = keeps_from (λ b. held (y.envs f.body) b (env_view f.env)) (mailboxes_of (values_of (env_view f.env))) below in
    record {
      live = c.mark_all.ensures.live ∙ c.loop-frame.invariant.live;
      marked = λ b.
          c.mark_all.ensures.marked b
          ∙ ap (λ l. env_refers b (env_view l) || m b) c.as_slice-env.ensures
          ∙ ap (λ t. env_refers b (env_view f.env) || t) (c.loop-frame.invariant.marked b)
          ∙ sym (ap (λ l. frames_refer b (map frame_view l)) more);
      keep =
          (elim c.if-part_keeps.branch [
            | then-part_keeps w ↦ w.keep-is ∙ sym (ap (λ b. b && c.loop-frame.keep) w.if-part_keeps.true)
            | else-part_keeps w ↦ w.keep-is ∙ w.if-part_keeps.false ∙ sym (ap (λ b. b && c.loop-frame.keep) w.if-part_keeps.false)
          ])
          ∙ ap (λ b. b && c.loop-frame.keep)
          (c.part_keeps.ensures
          ∙ ap (λ l. keeps_marked m (λ b. held (y.envs f.body) b (env_view l)) (mailboxes_of (values_of (env_view l)))) c.as_slice-env.ensures
          ∙ keeps_same m (λ b. frames_refer b below) (λ b. held (y.envs f.body) b (env_view f.env)) (mailboxes_of (values_of (env_view f.env))) c.loop-frame.invariant.marked)
          ∙ ap (λ r. this && r) c.loop-frame.invariant.keep
          ∙ sym (ap (λ l. frames_keep y (map frame_view l)) more);
    }
