use Rattle.std.proofs.Common.{◌++◌, ◌+◌, length, map, drop, refl, ap, ◌∙◌}
use Rattle.std.proofs.lemmas.List.{length-set}
use Rattle.pat_inclusion_spec.specs.Values.{GridForm}
use Rattle.pat_derivations.specs.declared.data.VarValue.TheVariants.{Grid}
use Rattle.pat_derivations.specs.Views.{counts_of, value_view}
use Rattle.pat_solve.proofs.Turning.{map_one, turn}
use Rattle.pat_solve.proofs.interface.forms.grid_values.Goals as goal

pub loop-place-preserved : goal.loop-place-preserved
loop-place-preserved c = record {
  long = ap length c.replace-own.ensures.after ∙ length-set c.loop-place.points c.loop-place.place c.new.result ∙ c.loop-place.invariant.long;
  whole =
      ap (λ vs. map value_view vs ++ map (λ ps. GridForm c.args.k (map counts_of ps)) (drop (c.loop-place.place + 1) c.replace-own.new.self)) c.in_ok-push.ensures.ok
      ∙ ap (λ vs. vs ++ map (λ ps. GridForm c.args.k (map counts_of ps)) (drop (c.loop-place.place + 1) c.replace-own.new.self)) (map_one value_view c.loop-place.values (Grid c.args.k c.replace-own.result))
      ∙ turn (λ ps. map (λ qs. GridForm c.args.k (map counts_of qs)) ps) (λ qs. GridForm c.args.k (map counts_of qs)) (λ x xs. refl) c.loop-place.points c.replace-own.new.self c.loop-place.place c.replace-own.result c.new.result (map value_view c.loop-place.values) (map (λ qs. GridForm c.args.k (map counts_of qs)) c.args.points) c.replace-own.ensures.before c.replace-own.ensures.after c.loop-place.invariant.whole;
}
