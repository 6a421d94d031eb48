use Rattle.std.proofs.Common.{◌≡◌, ◌++◌, length, map, drop}
use Rattle.pat_inclusion_spec.specs.Values.{GridForm}
use Rattle.pat_derivations.specs.Views.{counts_of, value_view}
use Rattle.pat_solve.proofs.interface.forms.grid_values.Given as goal

abbrev pub invariant-loop-place : goal.invariant-loop-place
invariant-loop-place l = record {
  long : length l.points ≡ length l.fn.points;
  whole : map value_view l.values ++ map (λ ps. GridForm l.fn.k (map counts_of ps)) (drop l.place l.points) ≡ map (λ ps. GridForm l.fn.k (map counts_of ps)) l.fn.points;
}
