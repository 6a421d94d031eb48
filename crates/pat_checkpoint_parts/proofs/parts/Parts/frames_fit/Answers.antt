use Rattle.std.proofs.Common.{◌&&◌, take, sym, ap, ◌∙◌, map, reverse}
use Rattle.std.specs.Map.{keys_of}
use Rattle.pat_reduce.specs.threads.ThreadViews.{frame_view}
use Rattle.pat_checkpoint_spec.specs.Numbers.{ascends}
use Rattle.pat_semantics_spec.specs.Configs.{Frame}
use Rattle.pat_checkpoint_parts.specs.Typed.{program_in, typing_in}
use Rattle.pat_checkpoint_parts.specs.Shown.{interfaces_in, frame_fits}
use Rattle.pat_checkpoint_parts.proofs.Turns.{all_here}
use Rattle.pat_checkpoint_parts.proofs.Walks.{fit_more}
use Rattle.pat_checkpoint_parts.proofs.parts.Parts.frames_fit.Goals as goal
use Rattle.pat_checkpoint_parts.proofs.parts.Parts.frames_fit.Goals.{then-fit, else-fit}

pub frame_fits-fit-requires : goal.frame_fits-fit-requires
frame_fits-fit-requires c = all_here (λ (f : Frame). ascends 0 (keys_of f.env)) frame_view c.args.frames.now c.loop-place.place c.index-frames-place.result c.loop-place-test.true c.index-frames-place.is c.requires

pub loop-place-preserved : goal.loop-place-preserved
loop-place-preserved c =
    let x = c.args.self.now in
    let frames = c.args.frames.now in
    let f = c.index-frames-place.result in
    let this = frame_fits (program_in x.typing) (typing_in x.typing) (interfaces_in x) (frame_view f) (map frame_view (reverse (take c.loop-place.place frames))) in
    fit_more (program_in x.typing) (typing_in x.typing) frames c.loop-place.place f c.loop-place-test.true c.index-frames-place.is (interfaces_in x) c.loop-place.fit c.if-fit.fit c.loop-place.invariant
    (elim c.if-fit.branch [
      | then-fit w ↦ w.fit-is ∙ w.frame_fits-fit.ensures ∙ sym (ap (λ b. b && this) w.if-fit.true)
      | else-fit w ↦ w.fit-is ∙ w.if-fit.false ∙ sym (ap (λ b. b && this) w.if-fit.false)
    ])
