-- Frames from the bottom up refer to what those from the top down do.
use Rattle.std.proofs.Common.{◌≡◌, ℕ, Bool, false, List, map, reverse, sym, ap, ◌∙◌}
use Rattle.std.specs.Prelude.{◌||◌}
use Rattle.std.specs.List.{list_any}
use Rattle.pat_semantics_spec.specs.Configs.{control_refers, env_refers}
use Rattle.pat_reduce_values.proofs.Finds.{any_reversed}
use Rattle.pat_reduce.specs.declared.threads.state.Control.{Control as CodeControl}
use Rattle.pat_reduce.specs.declared.threads.state.Frame.{Frame as CodeFrame}
use Rattle.pat_reduce.specs.threads.ThreadViews.{control_view, frame_view}

-- whether a frame or the control refers to the mailbox, with the frames from the bottom up
pub frames_too : (a : ℕ) (k : CodeControl) (slice frames : List CodeFrame) (b f : Bool) → b ≡ control_refers a (control_view k) → b ≡ false → reverse slice ≡ frames → f ≡ list_any (λ q. env_refers a q.env) (map frame_view slice)
    → f ≡ (control_refers a (control_view k) || list_any (λ q. env_refers a q.env) (map frame_view frames))
frames_too a k slice frames b f is not_own same all =
    all ∙ sym (any_reversed (λ q. env_refers a q.env) frame_view slice)
    ∙ ap (λ l. list_any (λ q. env_refers a q.env) (map frame_view l)) same
    ∙ ap (λ x. x || list_any (λ q. env_refers a q.env) (map frame_view frames)) (sym not_own ∙ is)
