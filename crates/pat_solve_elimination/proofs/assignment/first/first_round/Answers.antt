use Rattle.std.proofs.Common.{◌≡◌, ◌<◌, ◌+◌, suc, true, length, take, ap, sym, ◌∙◌, subst, arith}
use Rattle.std.specs.Prelude.{get_or, Err}
use Rattle.std.proofs.lemmas.List.{length-map}
use Rattle.std.proofs.lemmas.Result.{err_from_is_err_and}
use Rattle.pat_words_spec.specs.Patterns.{Zero}
use Rattle.pat_solve_bounded.specs.Views.{measured_view, measured_list}
use Rattle.pat_solve_bounded.specs.replacing.Ascending.{paired}
use Rattle.pat_solve_elimination.specs.Rounds.{next_value, next_fits}
use Rattle.pat_solve_elimination.specs.Results.{Gives}
use Rattle.pat_solve_elimination.proofs.FirstTurns.{Eliminated, begun, turned, refused, ended}
use Rattle.pat_solve_elimination.proofs.Steps.{list_more}
use Rattle.pat_solve_elimination.proofs.assignment.first.first_round.Goals as goal

pub loop-place-init : goal.loop-place-init
loop-place-init c =
    subst (λ vs. Eliminated c.args.variables.now (measured_list c.args.lowers.now) 0 (measured_list vs)) (sym c.new-values.ensures) (begun c.args.variables.now (measured_list c.args.lowers.now))

pub loop-place-preserved : goal.loop-place-preserved
loop-place-preserved c =
    let ks = c.args.variables.now in
    let fs = measured_list c.args.lowers.now in
    let place = c.loop-place.place in
    let old = c.loop-place.values in
    let as_many : length ks ≡ length fs = c.requires.as_many ∙ sym (length-map c.args.lowers.now measured_view) in
    let here : place < length ks = omega (arith, c.loop-place-test.true) in
    let k = get_or ks place 0 in
    let f = get_or fs place Zero in
    let own = subst (λ ms. (measured_view c.in_ok-value.value ≡ next_value (paired (take place ks) (measured_list ms)) k f) × (next_fits (paired (take place ks) (measured_list ms)) k f ≡ true)) c.as_slice.ensures c.in_ok-value.ensures in
    let done = turned ks fs as_many place (measured_list old) (measured_view c.in_ok-value.value) c.loop-place.invariant here own.0 own.1 in
    let one : suc place ≡ place + 1 = omega arith in
    subst (λ n. Eliminated ks fs n (measured_list c.push.new.self)) one
    (subst (Eliminated ks fs (suc place)) (sym (ap measured_list c.in_ok-push.ensures.ok ∙ list_more old c.in_ok-value.value)) done)

pub returns-in_err-value-clause-values : goal.returns-in_err-value-clause-values
returns-in_err-value-clause-values c =
    let ks = c.args.variables.now in
    let fs = measured_list c.args.lowers.now in
    let place = c.loop-place.place in
    let as_many : length ks ≡ length fs = c.requires.as_many ∙ sym (length-map c.args.lowers.now measured_view) in
    let here : place < length ks = omega (arith, c.loop-place-test.true) in
    let k = get_or ks place 0 in
    let f = get_or fs place Zero in
    let own = subst (λ ms. Gives (Err c.in_err-value.field-0.0) (next_fits (paired (take place ks) (measured_list ms)) k f) (next_value (paired (take place ks) (measured_list ms)) k f)) c.as_slice.ensures c.in_err-value.ensures in
    let q = err_from_is_err_and c.from_residual.result c.from_residual.ensures.1 in
    rw (q.1, q.2) (refused ks fs as_many place (measured_list c.loop-place.values) c.in_err-value.field-0.0 c.loop-place.invariant here own)

pub returns-clause-values : goal.returns-clause-values
returns-clause-values c =
    let ks = c.args.variables.now in
    let fs = measured_list c.args.lowers.now in
    let as_many : length ks ≡ length fs = c.requires.as_many ∙ sym (length-map c.args.lowers.now measured_view) in
    let e = ended ks fs as_many c.loop-place.place (measured_list c.loop-place.values) c.loop-place.invariant (omega (arith, c.loop-place-test.false)) in
    (e.0, sym (length-map c.loop-place.values measured_view) ∙ e.1, e.2)
