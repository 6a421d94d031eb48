use Rattle.std.proofs.Common.{◌≡◌, ◌++◌, map, take, drop, length}
use Rattle.pat_inclusion_spec.specs.Counts.{most_tags}
use Rattle.pat_inclusion_spec.specs.ClosedForms.{set_product}
use Rattle.pat_linear.specs.Views.{set_view, sets_view}
use Rattle.pat_linear.specs.Rooms.{HasRoom}
use Rattle.pat_linear.proofs.products.multiply_from.Given as goal

abbrev pub invariant-loop-place : goal.invariant-loop-place
invariant-loop-place l = record {
  count : length l.sets-inside.items.items ≡ length l.initial.sets-inside.items.items;
  room : HasRoom (set_view l.a) (sets_view (drop l.place l.sets-inside.items.items));
  whole : sets_view (take l.place l.sets-inside.items.items) ++ map (set_product most_tags (set_view l.a)) (sets_view (drop l.place l.sets-inside.items.items))
      ≡ sets_view (take l.start l.initial.sets-inside.items.items) ++ map (set_product most_tags (set_view l.a)) (sets_view (drop l.start l.initial.sets-inside.items.items));
}
