use Rattle.std.proofs.Common.{◌≡◌, ◌++◌, drop, map}
use Rattle.pat_inclusion_spec.specs.Counts.{most_tags}
use Rattle.pat_inclusion_spec.specs.ClosedForms.{set_product}
use Rattle.pat_linear.specs.Views.{set_view, sets_view}
use Rattle.pat_linear.proofs.products.push_row.Given as goal

abbrev pub invariant-loop-b : goal.invariant-loop-b
invariant-loop-b l =
    sets_view l.done ++ map (set_product most_tags (set_view l.a)) (sets_view (drop l.b-index l.bs))
    ≡ sets_view l.initial.done ++ map (set_product most_tags (set_view l.a)) (sets_view l.bs)
