use Rattle.std.proofs.Common.{ℕ, sym, ap, ◌∙◌}
use Rattle.std.specs.Prelude.{option_map, slice_get}
use Rattle.pat_semantics_spec.specs.Values.{Value}
use Rattle.pat_core.specs.Views.{kind_view}
use Rattle.pat_reduce_values.specs.declared.values.Value.{Value as CodeValue}
use Rattle.pat_reduce_values.specs.ValueViews.{value_view}
use Rattle.pat_checkpoint_spec.specs.Kinds.{value_fits_some}
use Rattle.pat_checkpoint_parts.specs.Shown.{interfaces_in}
use Rattle.pat_checkpoint_parts.proofs.Gets.{copied_get}
use Rattle.pat_checkpoint_parts.proofs.Turns.{one_fails, one_passes}
use Rattle.pat_checkpoint_parts.proofs.parts.Parts.values_fit.Goals as goal

pub returns-then-not-fits_some : goal.returns-then-not-fits_some
returns-then-not-fits_some c =
    let x = c.args.self.now in
    let kinds = c.args.kinds.now in
    let e = c.loop-variable-item.result in
    one_fails (λ (e : ℕ × Value). value_fits_some (interfaces_in x) e.1 (option_map kind_view (slice_get kinds e.0))) (λ (b : ℕ × CodeValue). (b.0, value_view b.1)) c.args.env.now c.loop-variable.variable-index e c.loop-variable-test.true c.loop-variable-item.is _ c.loop-variable.invariant
    (sym (ap (λ o. value_fits_some (interfaces_in x) (value_view e.1) (option_map kind_view o)) (copied_get kinds e.0 c.get.result c.get.ensures.lookup))
    ∙ sym c.fits_some.ensures ∙ c.if-not-fits_some.true)

pub loop-variable-preserved : goal.loop-variable-preserved
loop-variable-preserved c =
    let x = c.args.self.now in
    let kinds = c.args.kinds.now in
    let e = c.loop-variable-item.result in
    one_passes (λ (e : ℕ × Value). value_fits_some (interfaces_in x) e.1 (option_map kind_view (slice_get kinds e.0))) (λ (b : ℕ × CodeValue). (b.0, value_view b.1)) c.args.env.now c.loop-variable.variable-index e c.loop-variable-test.true c.loop-variable-item.is _ c.loop-variable.invariant
    (sym (ap (λ o. value_fits_some (interfaces_in x) (value_view e.1) (option_map kind_view o)) (copied_get kinds e.0 c.get.result c.get.ensures.lookup))
    ∙ sym c.fits_some.ensures ∙ c.if-not-fits_some.false)
