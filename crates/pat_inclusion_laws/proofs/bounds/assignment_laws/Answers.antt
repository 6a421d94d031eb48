use Rattle.pat_inclusion_laws.proofs.TreeLaws.{shown_under}
use Rattle.pat_inclusion_laws.proofs.AssignmentLaws.{below_meets, meets_below, none_refutes}
use Rattle.pat_inclusion_laws.proofs.CutSetLaws.{through, back_through, cuts_least}
use Rattle.pat_inclusion_laws.proofs.bounds.assignment_laws.Goals as goal

pub returns : goal.returns
returns g c = let values = g.A.Assignment.values in record {
  least = λ lower e w meets d. shown_under lower values meets d.0 e w d.1;
  below = λ cs. (meets_below values cs, below_meets values cs);
  refuted = none_refutes values;
  through = λ k e u. (through k values e u, back_through k values e u);
  cuts = λ k lower e u. cuts_least k lower values e u;
}
