use Rattle.std.proofs.Common.{◌++◌, ◌+◌, length, map, drop, refl, ap, ◌∙◌}
use Rattle.std.proofs.lemmas.List.{length-set}
use Rattle.pat_inclusion_spec.specs.Values.{PatternForm}
use Rattle.pat_derivations.specs.declared.data.VarValue.TheVariants.{Pattern}
use Rattle.pat_derivations.specs.Views.{value_view}
use Rattle.pat_solve_bounded.specs.Views.{measured_view, measured_list}
use Rattle.pat_solve.proofs.Turning.{map_one, turn}
use Rattle.pat_solve.proofs.interface.forms.pattern_values.Goals as goal

pub loop-place-preserved : goal.loop-place-preserved
loop-place-preserved c = record {
  long = ap length c.replace-part.ensures.after ∙ length-set c.loop-place.patterns c.loop-place.place c.zero.result ∙ c.loop-place.invariant.long;
  whole =
      ap (λ vs. map value_view vs ++ map PatternForm (measured_list (drop (c.loop-place.place + 1) c.replace-part.new.self))) c.in_ok-push.ensures.ok
      ∙ ap (λ vs. vs ++ map PatternForm (measured_list (drop (c.loop-place.place + 1) c.replace-part.new.self))) (map_one value_view c.loop-place.values (Pattern c.replace-part.result.pattern))
      ∙ turn (λ ms. map PatternForm (measured_list ms)) (λ m. PatternForm (measured_view m)) (λ x xs. refl) c.loop-place.patterns c.replace-part.new.self c.loop-place.place c.replace-part.result c.zero.result (map value_view c.loop-place.values) (map PatternForm (measured_list c.args.patterns)) c.replace-part.ensures.before c.replace-part.ensures.after c.loop-place.invariant.whole;
}
