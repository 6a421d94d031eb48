use Rattle.pat_derivation_laws.proofs.Unbroken.{none_bad_valid, valid_none_bad, first_bad_is, is_first_bad}
use Rattle.pat_derivation_laws.proofs.first_bad_laws.Goals as goal

pub returns : goal.returns
returns c = record {
  none = λ p d. (none_bad_valid p d, valid_none_bad p d);
  first = λ p d n r. (first_bad_is p d n r, λ h. is_first_bad p d n r h.0 h.1);
}
