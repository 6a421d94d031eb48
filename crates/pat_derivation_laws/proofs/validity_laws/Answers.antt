use Rattle.pat_derivation_spec.specs.Derivations.{typing_of}
use Rattle.pat_derivation_laws.proofs.Unbroken.{valid_holds}
use Rattle.pat_derivation_laws.proofs.Valid.{valid_typing}
use Rattle.pat_derivation_laws.proofs.validity_laws.Goals as goal

pub returns : goal.returns
returns c = record {
  typing = λ p d w v. valid_typing p d w (valid_holds p d w v);
  typable = λ p d w v. (typing_of p d, valid_typing p d w (valid_holds p d w v));
  holds = valid_holds;
  inclusions = valid_typing;
}
