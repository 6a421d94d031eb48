use Rattle.std.proofs.Common.{rules, ◌∙◌, ◌<◌, length}
use Rattle.pat_inclusion_spec.specs.Counts.{most_tags}
use Rattle.pat_inclusion_spec.specs.ClosedForms.{set_product}
use Rattle.pat_linear.specs.Views.{set_view}
use Rattle.pat_linear.proofs.Multiplied.{count_kept, room_kept, whole_kept}
use Rattle.pat_linear.proofs.products.multiply_from.Goals as goal

pub loop-place-preserved : goal.loop-place-preserved
loop-place-preserved c =
    let sets = c.loop-place.sets-inside.items.items in
    let place = c.loop-place.place in
    let made = c.multiply_onto.new.b in
    let below : place < length sets = search rules in
    record {
      count = count_kept sets place made ∙ c.loop-place.invariant.count;
      room = room_kept (set_view c.args.a.now) sets place made below c.loop-place.invariant.room;
      whole = whole_kept (set_product most_tags (set_view c.args.a.now)) sets place made c.index_mut.result.now _ below c.index_mut.ensures.value c.in_ok-multiply_onto.ensures c.loop-place.invariant.whole;
    }
