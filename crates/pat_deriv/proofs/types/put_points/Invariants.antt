use Rattle.std.proofs.Common.{◌≡◌, ◌∷◌, ◌++◌, drop, map}
use Rattle.std.specs.List.{flat_map}
use Rattle.pat_derivations.specs.Views.{counts_of}
use Rattle.pat_derivation_text_spec.specs.DerivationText.{point_text}
use Rattle.pat_deriv.proofs.types.put_points.Given as goal

abbrev pub invariant-loop-point : goal.invariant-loop-point
invariant-loop-point l = l.out.items ++ flat_map (λ q. 32 ∷ point_text l.tags q) (map counts_of (drop l.point-index l.points)) ≡ l.initial.out.items ++ flat_map (λ q. 32 ∷ point_text l.tags q) (map counts_of l.points)
