use Rattle.pat_words_laws.proofs.ClosedPatterns.{flat_closed}
use Rattle.pat_inclusion_laws.proofs.ClosedLaws.{derivable_in, in_derivable, derivable_values, values_derivable, known_right, right_known, eval_to, eval_from}
use Rattle.pat_inclusion_laws.proofs.ByTable.{search_law}
use Rattle.pat_inclusion_laws.proofs.Total.{search_total, points_lie, lie_points}
use Rattle.pat_inclusion_laws.proofs.bounds.closed_laws.Goals as goal

pub returns : goal.returns
returns c = record {
  closed = λ lower e w h. (derivable_in lower e w h, in_derivable lower e w h);
  flat = flat_closed;
  values = λ lower e w h. (derivable_values lower e w h, values_derivable lower e w h);
  right = λ g table lower right r u done flat st h p. (
    known_right g table lower right r u done flat st h p,
    right_known g table lower right r u done flat st h,
  );
  search = search_law;
  eval = λ k given patterns e u same. (eval_to k given patterns e u same, eval_from k given patterns e u same);
  total = search_total;
  lie = λ k n e f te tf. (points_lie k n e f te tf, lie_points k n e f te tf);
}
