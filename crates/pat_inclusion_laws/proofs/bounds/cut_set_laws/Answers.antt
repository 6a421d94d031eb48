use Rattle.std.proofs.Common.{refl}
use Rattle.pat_inclusion_laws.proofs.CutSetLaws.{cuts_meet, derivable_cuts, cuts_derivable, in_by_cut, inside_cuts, cuts_inside}
use Rattle.pat_inclusion_laws.proofs.bounds.cut_set_laws.Goals as goal

pub returns : goal.returns
returns c = record {
  meets = λ k lower. (cuts_meet k lower, λ e u. (derivable_cuts k lower e u, cuts_derivable k lower e u));
  inside = λ k lower left right flat l. (inside_cuts k lower left right, cuts_inside k lower left right flat l);
  outside = λ k right w flat l. (λ out h. out (in_by_cut k right w flat l h), λ out h. out (w, h, refl));
}
