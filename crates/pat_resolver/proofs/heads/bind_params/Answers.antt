use Rattle.std.proofs.Common.{◌+◌, ◌<◌, length, drop, arith, ◌∙◌}
use Rattle.std.proofs.lemmas.Grind.{common_steps}
use Rattle.pat_resolver_bodies.proofs.Rows.{row_from}
use Rattle.pat_resolver.proofs.Rows.{scope_more, kinds_more, spans_more}
use Rattle.pat_resolver.proofs.heads.bind_params.Goals as goal

pub loop-place-preserved : goal.loop-place-preserved
loop-place-preserved c =
    let x = c.index-params-place.result in
    let s = c.index-sorts-place.result in
    let here : c.loop-place.place < length c.args.sorts.now = omega (arith, c.requires.same) in
    let e = row_from c.args.params.now c.loop-place.place x c.loop-place-test.true c.index-params-place.is in
    let f = row_from c.args.sorts.now c.loop-place.place s here c.index-sorts-place.is in
    record {
      numbers = grind (arith, common_steps);
      count = grind (arith, common_steps);
      scope = rw c.in_ok-bind.ensures.scope (scope_more c.loop-place.place _ (drop (c.loop-place.place + 1) c.args.params.now) (drop (c.loop-place.place + 1) c.args.sorts.now) x s _ c.loop-place.scope c.loop-place.invariant.numbers c.kind_of_sort.ensures ∙ (rw (e, f) at c.loop-place.invariant.scope));
      kinds = rw c.in_ok-bind.ensures.kinds (kinds_more _ _ s _ c.kind_of_sort.ensures ∙ (rw f at c.loop-place.invariant.kinds));
      spans = rw c.in_ok-bind.ensures.spans (spans_more _ _ x ∙ (rw e at c.loop-place.invariant.spans));
    }
