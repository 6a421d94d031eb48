use Rattle.std.proofs.Common.{◌∙◌}
use Rattle.std.proofs.lemmas.Result.{IfOk-weaker}
use Rattle.pat_checkpoint_parts.proofs.Whole.{order_is}
use Rattle.pat_checkpoint_parts.proofs.order.order_holds.Goals as goal

pub returns : goal.returns
returns c =
    let a = c.args in
    IfOk-weaker c.threads_keep.result _ _ (λ yes h.
    h ∙ order_is a.program.now a.derivation.now c.in_ok-typing.typing c.in_ok-typing.ensures.program c.in_ok-typing.ensures.derivation a.config.now c.as_slice-2.result.now c.as_slice-2.ensures) c.threads_keep.ensures
