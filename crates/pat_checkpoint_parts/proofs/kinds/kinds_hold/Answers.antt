use Rattle.std.proofs.Common.{◌&&◌, sym, ap, ◌∙◌}
use Rattle.std.proofs.lemmas.Result.{IfOk-weaker}
use Rattle.pat_core.specs.Views.{program_view}
use Rattle.pat_derivations.specs.Views.{derivation_view}
use Rattle.pat_checkpoint_spec.specs.Kinds.{parts_shown}
use Rattle.pat_checkpoint_data.specs.Views.{checkpoint_view}
use Rattle.pat_checkpoint_parts.proofs.Whole.{fit_is, shown_is}
use Rattle.pat_checkpoint_parts.proofs.kinds.kinds_hold.Goals as goal

pub returns-then-not-threads_fit : goal.returns-then-not-threads_fit
returns-then-not-threads_fit c =
    let a = c.args in
    let parts = c.in_ok-parts.parts in
    let made = c.in_ok-parts.ensures in
    let shown = parts_shown (program_view a.program.now) (derivation_view a.derivation.now) (checkpoint_view a.checkpoint.now) in
    let fits =
    c.threads_fit.ensures
    ∙ fit_is a.program.now a.derivation.now parts.typing made.program made.derivation a.checkpoint.now parts.live.now parts.interfaces.now c.as_slice-threads.result.now (made.live ∙ c.as_slice-live.ensures) (made.interfaces ∙ c.as_slice-interfaces.ensures) c.as_slice-threads.ensures in
    sym (ap (λ b. b && shown) (sym fits ∙ c.if-not-threads_fit.true))

pub returns : goal.returns
returns c =
    let a = c.args in
    let parts = c.in_ok-parts.parts in
    let made = c.in_ok-parts.ensures in
    let shown = parts_shown (program_view a.program.now) (derivation_view a.derivation.now) (checkpoint_view a.checkpoint.now) in
    let fits =
    c.threads_fit.ensures
    ∙ fit_is a.program.now a.derivation.now parts.typing made.program made.derivation a.checkpoint.now parts.live.now parts.interfaces.now c.as_slice-threads.result.now (made.live ∙ c.as_slice-live.ensures) (made.interfaces ∙ c.as_slice-interfaces.ensures) c.as_slice-threads.ensures in
    IfOk-weaker c.threads_shown.result _ _ (λ yes h.
    h
    ∙ shown_is a.program.now a.derivation.now parts.typing made.program made.derivation a.checkpoint.now c.as_slice-threads.result.now c.as_slice-certs.result.now c.as_slice-threads.ensures c.as_slice-certs.ensures
    ∙ sym (ap (λ b. b && shown) (sym fits ∙ c.if-not-threads_fit.false))) c.threads_shown.ensures
