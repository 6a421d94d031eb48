use Rattle.pat_words_spec.specs.Cuts.{cut_at}
use Rattle.pat_inclusion_spec.specs.bounds.Numbers.{point_of}
use Rattle.pat_grid_points.specs.Views.{HasPoint}
use Rattle.pat_grid_certificates.proofs.Marking.{TestsTo}
use Rattle.pat_grid_certificates.proofs.cutting.spread.Given as goal

abbrev pub invariant-loop-number : goal.invariant-loop-number
invariant-loop-number l =
    TestsTo (λ c. HasPoint l.own (cut_at l.own.k (point_of l.k l.own.tags c))) l.points l.held l.number
