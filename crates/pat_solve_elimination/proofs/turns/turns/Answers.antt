use Rattle.std.proofs.Common.{◌≡◌, ◌<◌, true, length, sym, ◌∙◌, subst, arith}
use Rattle.std.proofs.lemmas.List.{length-map}
use Rattle.std.proofs.lemmas.Result.{err_from_is_err_and}
use Rattle.pat_inclusion_spec.specs.ClosedForms.{is_small}
use Rattle.pat_solve_bounded.specs.Views.{measured_view, measured_list}
use Rattle.pat_solve_elimination.proofs.Turning.{begun, turned, refused, ended}
use Rattle.pat_solve_elimination.proofs.turns.turns.Goals as goal

pub loop-place-init : goal.loop-place-init
loop-place-init c = begun c.args.variables.now (measured_list c.args.values.now) (measured_view c.args.f)

pub loop-place-preserved : goal.loop-place-preserved
loop-place-preserved c =
    let ks = c.args.variables.now in
    let vs = measured_list c.args.values.now in
    let as_many : length ks ≡ length vs = c.requires.as_many ∙ sym (length-map c.args.values.now measured_view) in
    let here : c.loop-place.place < length ks = omega (arith, c.loop-place-test.true) in
    turned ks vs as_many (measured_view c.args.f) c.loop-place.place (measured_view c.loop-place.made) (measured_view c.in_ok-made.made) c.in_ok-place.place c.requires.rebuilt c.loop-place.invariant here c.in_ok-made.ensures.0
    (subst (λ x. is_small x ≡ true) (sym c.in_ok-made.ensures.0) c.in_ok-made.ensures.1)
    (omega (arith, c.in_ok-place.ensures.from))
    c.in_ok-place.ensures.within
    (λ j a b. c.in_ok-place.ensures.absent j (omega (arith, a)) b)

pub returns-in_err-made : goal.returns-in_err-made
returns-in_err-made c =
    let ks = c.args.variables.now in
    let vs = measured_list c.args.values.now in
    let as_many : length ks ≡ length vs = c.requires.as_many ∙ sym (length-map c.args.values.now measured_view) in
    let here : c.loop-place.place < length ks = omega (arith, c.loop-place-test.true) in
    let q = err_from_is_err_and c.from_residual.result c.from_residual.ensures.1 in
    rw (q.1, q.2) (refused ks vs as_many (measured_view c.args.f) c.loop-place.place (measured_view c.loop-place.made) c.in_err-made.field-0.0 c.loop-place.invariant here c.in_err-made.ensures)

pub returns : goal.returns
returns c =
    ended c.args.variables.now (measured_list c.args.values.now) (c.requires.as_many ∙ sym (length-map c.args.values.now measured_view)) (measured_view c.args.f) c.loop-place.place (measured_view c.loop-place.made) c.loop-place.invariant (omega (arith, c.loop-place-test.false))
