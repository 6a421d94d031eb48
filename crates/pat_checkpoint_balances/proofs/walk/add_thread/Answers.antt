use Rattle.std.proofs.Common.{◌++◌, ap, ◌∙◌, map, append_assoc}
use Rattle.pat_derivation_spec.specs.Derivations.{written_typing}
use Rattle.pat_derivations.specs.Views.{derivation_view}
use Rattle.pat_types.specs.Views.{needs_view}
use Rattle.pat_reduce.specs.threads.ThreadViews.{control_view, frame_view}
use Rattle.pat_checkpoint_spec.specs.HoldingsInOrder.{control_holds}
use Rattle.pat_checkpoint_balances.specs.Tables.{needs_of, frames_hold_in_turn}
use Rattle.pat_checkpoint_balances.proofs.Holding.{frames_in_turn}
use Rattle.pat_checkpoint_balances.proofs.walk.add_thread.Goals as goal

pub returns : goal.returns
returns c = λ p tables.
    let d = derivation_view c.args.derivation.now in
    let y = written_typing p d in
    let s = c.args.thread.now in
    let envs = c.as_slice.result.now in
    let fs = c.as_slice-2.result.now in
    let held_control = control_holds p y (control_view s.control) (map frame_view s.frames) in
    let held_frames = frames_hold_in_turn (needs_of envs) (map frame_view fs) in
    c.in_ok-add_frames.ensures
    ∙ ap (λ l. l ++ held_frames) (c.in_ok-add_control.ensures p tables)
    ∙ append_assoc (needs_view c.args.held.now) held_control held_frames
    ∙ ap (λ l. needs_view c.args.held.now ++ (held_control ++ l)) (ap (λ e. frames_hold_in_turn (needs_of e) (map frame_view fs)) c.as_slice.ensures ∙ frames_in_turn p d c.args.tables.now fs s.frames tables c.as_slice-2.ensures)
