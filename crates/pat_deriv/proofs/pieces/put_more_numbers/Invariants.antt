use Rattle.std.proofs.Common.{◌≡◌, ◌∷◌, ◌++◌, drop, map}
use Rattle.std.specs.List.{flat_map}
use Rattle.std.specs.Fmt.{decimal}
use Rattle.pat_derivation_spec.specs.Spelled.{are_numbers}
use Rattle.pat_deriv.proofs.pieces.put_more_numbers.Given as goal

abbrev pub invariant-loop-number : goal.invariant-loop-number
invariant-loop-number l = record {
  text : l.out.items ++ flat_map (λ y. 44 ∷ y) (map decimal (drop l.number-index l.numbers)) ≡ l.initial.out.items ++ flat_map (λ y. 44 ∷ y) (map decimal l.numbers);
  numbers : are_numbers (drop l.number-index l.numbers) ≡ are_numbers l.numbers;
}
