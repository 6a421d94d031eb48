use Rattle.std.proofs.Common.{◌≡◌, ◌++◌, length, map, drop}
use Rattle.pat_inclusion_spec.specs.Values.{PatternForm}
use Rattle.pat_derivations.specs.Views.{value_view}
use Rattle.pat_solve_bounded.specs.Views.{measured_list}
use Rattle.pat_solve.proofs.interface.forms.pattern_values.Given as goal

abbrev pub invariant-loop-place : goal.invariant-loop-place
invariant-loop-place l = record {
  long : length l.patterns ≡ length l.fn.patterns;
  whole : map value_view l.values ++ map PatternForm (measured_list (drop l.place l.patterns)) ≡ map PatternForm (measured_list l.fn.patterns);
}
