use Rattle.std.proofs.Common.{◌≡◌, ◌++◌, drop}
use Rattle.pat_inclusion_spec.specs.Counts.{most_tags}
use Rattle.pat_inclusion_spec.specs.ClosedForms.{products}
use Rattle.pat_linear.specs.Views.{sets_view}
use Rattle.pat_linear.proofs.products.all_products.Given as goal

abbrev pub invariant-loop-a : goal.invariant-loop-a
invariant-loop-a l =
    sets_view l.done ++ products most_tags (sets_view (drop l.a-index l.sets)) (sets_view l.others)
    ≡ products most_tags (sets_view l.sets) (sets_view l.others)
