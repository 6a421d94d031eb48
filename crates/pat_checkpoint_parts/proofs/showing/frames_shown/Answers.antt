use Rattle.std.proofs.Common.{◌≡◌, ◌<◌, ◌&&◌, length, take, sym, ap, ◌∙◌, map, reverse, arith}
use Rattle.std.specs.Prelude.{option_copied}
use Rattle.std.proofs.lemmas.List.{length-reverse, reverse-reverse, take_all}
use Rattle.std.proofs.lemmas.Option.{get_or_from_slice_get}
use Rattle.pat_reduce.specs.threads.ThreadViews.{frame_view}
use Rattle.pat_type_system_spec.specs.Holdings.{wanted}
use Rattle.pat_checkpoint_spec.specs.Kinds.{type_needs, is_certified, frames_shown}
use Rattle.pat_checkpoint_data.specs.Views.{end_view}
use Rattle.pat_checkpoint_parts.specs.Typed.{program_in, typing_in, scope_in}
use Rattle.pat_checkpoint_parts.proofs.Unequal.{frames_unequal, mapped_reversed}
use Rattle.pat_checkpoint_parts.proofs.Walks.{shown_more, none_shown}
use Rattle.pat_checkpoint_parts.proofs.showing.frames_shown.Goals as goal
use Rattle.pat_checkpoint_parts.proofs.showing.frames_shown.Goals.{then-shown+in_ok-shown, else-shown}

pub returns-then-frames-frame_count : goal.returns-then-frames-frame_count
returns-then-frames-frame_count c =
    let t = c.args.typing.now in
    let frames = c.args.frames.now in
    let ends = c.args.certs.now.frames in
    let back = length-reverse ends in
    sym (ap (λ l. frames_shown (program_in t) (typing_in t) (scope_in t) (map frame_view (reverse frames)) (map end_view l)) (sym (reverse-reverse ends))
    ∙ frames_unequal (program_in t) (typing_in t) (scope_in t) (map frame_view (reverse frames)) (map end_view (reverse (reverse ends))) (mapped_reversed frame_view end_view frames (reverse ends) (λ same. c.if-frames-frame_count.true (same ∙ back ∙ sym c.frame_count.ensures))))

pub loop-place-preserved : goal.loop-place-preserved
loop-place-preserved c =
    let t = c.args.typing.now in
    let frames = c.args.frames.now in
    let ends = c.args.certs.now.frames in
    let certs = reverse ends in
    let k = c.loop-place.place in
    let f = c.index-frames-place.result in
    let same : length frames ≡ length ends = c.if-frames-frame_count.false ∙ c.frame_count.ensures in
    let back : length certs ≡ length ends = length-reverse ends in
    let less : k < length frames = c.loop-place-test.true in
    let also : k < length certs = omega arith in
    let needs = type_needs ((typing_in t).results f.body) (wanted (program_in t) (typing_in t) (map frame_view (reverse (take k frames)))) in
    elim c.if-shown.branch [
      | then-shown+in_ok-shown w ↦
          let cert = option_copied w.frame.result in
          shown_more (program_in t) (typing_in t) frames k f less c.index-frames-place.is (scope_in t) certs cert also (sym (get_or_from_slice_get certs k cert cert w.frame.ensures)) c.loop-place.shown c.if-shown.shown c.loop-place.invariant
          (w.shown-is ∙ w.in_ok-shown.ensures ∙ sym (ap (λ b. b && is_certified (scope_in t) needs (end_view cert)) w.if-shown.true))
      | else-shown w ↦
          none_shown (program_in t) (typing_in t) frames k f less c.index-frames-place.is (scope_in t) certs also c.loop-place.shown c.if-shown.shown c.loop-place.invariant w.if-shown.false (w.shown-is ∙ w.if-shown.false)
    ]

pub returns : goal.returns
returns c =
    let t = c.args.typing.now in
    let frames = c.args.frames.now in
    let ends = c.args.certs.now.frames in
    let k = c.loop-place.place in
    let same : length frames ≡ length ends = c.if-frames-frame_count.false ∙ c.frame_count.ensures in
    let back : length (reverse ends) ≡ length ends = length-reverse ends in
    c.loop-place.invariant
    ∙ ap (λ l. frames_shown (program_in t) (typing_in t) (scope_in t) (map frame_view (reverse l)) (map end_view (reverse (take k (reverse ends))))) (take_all k frames (omega (arith, c.loop-place-test.false)))
    ∙ ap (λ l. frames_shown (program_in t) (typing_in t) (scope_in t) (map frame_view (reverse frames)) (map end_view l)) (ap reverse (take_all k (reverse ends) (omega (arith, same, back, c.loop-place-test.false))) ∙ reverse-reverse ends)
