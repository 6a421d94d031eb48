use Rattle.std.proofs.Common.{◌≡◌, true, sym, ◌∙◌, map, subst, refl}
use Rattle.std.specs.Prelude.{IfOk}
use Rattle.std.specs.List.{list_all}
use Rattle.pat_reduce.specs.threads.ThreadViews.{control_view, frame_view}
use Rattle.pat_checkpoint_spec.specs.Numbers.{env_lives, control_lives}
use Rattle.pat_checkpoint_spec.specs.Mailboxes.{env_differs, control_differs}
use Rattle.pat_checkpoint_numbers.proofs.Reversed.{frames_too, frames_pass}
use Rattle.pat_checkpoint_numbers.proofs.differing.thread_differs.Goals as goal

pub frames_differ-requires : goal.frames_differ-requires
frames_differ-requires c =
    let live = c.args.marks.now.live.now in
    let state = c.args.state.now in
    subst (λ l. list_all (λ f. env_lives l f.env) (map frame_view c.as_slice.result.now) ≡ true) (sym c.in_ok-control_differs.ensures.live)
    (frames_pass (λ f. env_lives live f.env) frame_view c.as_slice.result.now state.frames (control_lives live (control_view state.control)) c.as_slice.ensures c.requires)

pub returns-clause-yes : goal.returns-clause-yes
returns-clause-yes c =
    let state = c.args.state.now in
    let sure = sym c.in_ok-control_differs.ensures.yes ∙ c.if-not-branch.false in
    subst (λ b. IfOk c.frames_differ.result (λ r. r ≡ b))
    (frames_too (λ f. env_differs f.env) frame_view c.as_slice.result.now state.frames (control_differs (control_view state.control)) _ refl c.as_slice.ensures sure)
    c.frames_differ.ensures.yes
