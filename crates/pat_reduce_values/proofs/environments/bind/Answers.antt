use Rattle.std.proofs.Common.{ap, ◌∙◌}
use Rattle.std.specs.List.{insert}
use Rattle.pat_reduce_values.proofs.Bindings.{replaced_in, inserted_in}
use Rattle.pat_reduce_values.proofs.environments.bind.Goals as goal

pub returns-then-is_at : goal.returns-then-is_at
returns-then-is_at c = replaced_in c.args.env.now c.as_slice.result.now c.as_slice-2.result.now _ c.args.variable c.place_for-place.result c.args.value c.is_at.result c.as_slice.ensures c.as_slice-2.ensures c.place_for-place.ensures c.is_at.ensures c.if-is_at.true c.replace.ensures.after

pub returns : goal.returns
returns c =
    inserted_in c.args.env.now c.as_slice.result.now c.as_slice-2.result.now _ c.args.variable c.place_for-place.result c.args.value c.is_at.result c.as_slice.ensures c.as_slice-2.ensures c.place_for-place.ensures c.is_at.ensures c.if-is_at.false
    (c.in_ok-insert.ensures.items ∙ ap (λ l. insert l c.place_for-place.result (c.args.variable, c.args.value)) c.env.view_is)
