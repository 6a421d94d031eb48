use Rattle.std.proofs.Common.{◌≡◌, ◌∷◌, ◌++◌, drop, map}
use Rattle.std.specs.List.{flat_map, list_all}
use Rattle.pat_derivation_spec.specs.Spelled.{are_numbers}
use Rattle.pat_derivation_text_spec.specs.DerivationText.{numbers_text}
use Rattle.pat_deriv.proofs.certificates.put_periods.Given as goal

abbrev pub invariant-loop-numbers : goal.invariant-loop-numbers
invariant-loop-numbers l = record {
  text : l.out.items ++ flat_map (λ y. 59 ∷ y) (map numbers_text (drop l.numbers-index l.periods)) ≡ l.initial.out.items ++ flat_map (λ y. 59 ∷ y) (map numbers_text l.periods);
  numbers : list_all are_numbers (drop l.numbers-index l.periods) ≡ list_all are_numbers l.periods;
}
