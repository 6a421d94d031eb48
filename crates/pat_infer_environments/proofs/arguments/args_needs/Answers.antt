use Rattle.std.proofs.Common.{◌≡◌, ◌-◌, ◌<◌, suc, ◌∷◌, length, map, option_map, drop, sym, ap, ◌∙◌, arith}
use Rattle.pat_type_system_spec.specs.Types.{TypeEnv}
use Rattle.pat_type_system_spec.specs.Typings.{mailbox_args}
use Rattle.pat_infer_spec.specs.Needs.{args_needs}
use Rattle.pat_infer_spec.specs.Walk.{has_twice}
use Rattle.pat_core.specs.Views.{expr_view}
use Rattle.pat_types.specs.Views.{type_view, needs_view}
use Rattle.pat_infer_environments.specs.Types.{types_at, with_argument, twice_with}
use Rattle.pat_infer_environments.proofs.Listed.{one_argument, one_twice, at_place}
use Rattle.pat_infer_environments.proofs.arguments.args_needs.Goals as goal

pub loop-place-preserved : goal.loop-place-preserved
loop-place-preserved c =
    let m = c.loop-place.place in
    let args = c.args.args.now in
    let e = c.index-args-place.result in
    let types : TypeEnv = types_at (map (option_map type_view) c.args.types.now) in
    let s : suc (m - 1) ≡ m = omega (arith, c.loop-place-test.true) in
    let l : m - 1 < length args = omega (arith, c.loop-place-test.true, c.loop-place.invariant.within) in
    let d = at_place args (m - 1) m e s l c.index-args-place.is in
    record {
      within = omega (arith, l);
      needs =
          c.in_ok-add_argument.ensures.needs
          ∙ ap (λ o. with_argument o (expr_view e) (needs_view c.loop-place.all.needs)) c.type_at-of.ensures
          ∙ ap (λ w. with_argument (types (m - 1)) (expr_view e) w) c.loop-place.invariant.needs
          ∙ sym (one_argument types args (m - 1) m e s d);
      twice =
          c.in_ok-add_argument.ensures.twice
          ∙ ap (λ o. twice_with o (expr_view e) (needs_view c.loop-place.all.needs) c.loop-place.all.has_twice) c.type_at-of.ensures
          ∙ ap (λ w. twice_with (types (m - 1)) (expr_view e) w c.loop-place.all.has_twice) c.loop-place.invariant.needs
          ∙ ap (λ t. twice_with (types (m - 1)) (expr_view e) (args_needs types m (map expr_view (drop m args))) t) c.loop-place.invariant.twice
          ∙ sym (one_twice types args (m - 1) m e s d);
    }
