use Rattle.std.proofs.Common.{◌≡◌, ◌+◌, ◌<◌, length, drop, arith, ◌∙◌}
use Rattle.std.proofs.lemmas.Grind.{common_steps}
use Rattle.pat_resolver_bodies.proofs.Rows.{row_from, scope_more, kinds_more, spans_more}
use Rattle.pat_resolver_bodies.proofs.variables.bind_names.Goals as goal

pub loop-place-preserved : goal.loop-place-preserved
loop-place-preserved c =
    let x = c.index-names-place.result in
    let s = c.index-sorts-place.result in
    let here : c.loop-place.place < length c.args.sorts.now = omega (arith, c.requires.same) in
    let e = row_from c.args.names.now c.loop-place.place x c.loop-place-test.true c.index-names-place.is in
    let f = row_from c.args.sorts.now c.loop-place.place s here c.index-sorts-place.is in
    let count : length c.bind.new.variables.kinds ≡ length c.loop-place.variables.kinds + 1 = grind (arith, common_steps) in
    record {
      count = grind (arith, common_steps);
      more = grind (arith, common_steps);
      behind = grind (arith, common_steps);
      scope = rw c.in_ok-bind.ensures.scope (scope_more (length c.loop-place.variables.kinds) _ (drop (c.loop-place.place + 1) c.args.names.now) (drop (c.loop-place.place + 1) c.args.sorts.now) x s _ c.loop-place.scope count c.kind_of_sort.ensures ∙ (rw (e, f) at c.loop-place.invariant.scope));
      kinds = rw c.in_ok-bind.ensures.kinds (kinds_more _ _ _ x s _ c.kind_of_sort.ensures ∙ (rw (e, f) at c.loop-place.invariant.kinds));
      spans = rw c.in_ok-bind.ensures.spans (spans_more _ _ x ∙ (rw e at c.loop-place.invariant.spans));
    }
