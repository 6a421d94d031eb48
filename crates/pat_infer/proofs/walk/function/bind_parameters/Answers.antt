use Rattle.std.proofs.Common.{◌<◌, length, map, option_map, ◌∙◌, arith}
use Rattle.pat_types.specs.Views.{type_view, needs_view}
use Rattle.pat_infer_environments.specs.Types.{types_at}
use Rattle.pat_infer_terms.specs.Views.{binder_view}
use Rattle.pat_infer.proofs.WalkFunctions.{bound_more}
use Rattle.pat_infer.proofs.walk.function.bind_parameters.Goals as goal

pub loop-place-preserved : goal.loop-place-preserved
loop-place-preserved c =
    let here : c.loop-place.place < length c.args.params.now = omega (arith, c.loop-place-test.true) in
    bound_more (types_at (map (option_map type_view) c.args.types.now)) (needs_view c.args.needs.now) c.args.params.now c.loop-place.place (map binder_view c.loop-place.binders) (map binder_view c.bind_at.new.binders) here c.in_ok-bind_at.ensures ∙ c.loop-place.invariant
