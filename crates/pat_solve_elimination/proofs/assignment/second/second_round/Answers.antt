use Rattle.std.proofs.Common.{◌≡◌, ◌+◌, ◌-◌, suc, true, length, drop, ap, sym, ◌∙◌, subst, arith}
use Rattle.std.specs.Prelude.{get_or, Err}
use Rattle.std.proofs.lemmas.List.{length-map}
use Rattle.std.proofs.lemmas.Result.{err_from_is_err_and}
use Rattle.pat_words_spec.specs.Patterns.{Zero}
use Rattle.pat_solve_spec.specs.Assignments.{put_in_turn}
use Rattle.pat_solve_bounded.specs.Views.{measured_view, measured_list}
use Rattle.pat_solve_bounded.specs.replacing.Ascending.{paired}
use Rattle.pat_solve_elimination.specs.Rounds.{turn_fits}
use Rattle.pat_solve_elimination.specs.Results.{Gives}
use Rattle.pat_solve_elimination.proofs.SecondTurns.{PutBack, begun, turned, refused, ended}
use Rattle.pat_solve_elimination.proofs.Steps.{list_set}
use Rattle.pat_solve_elimination.proofs.assignment.second.second_round.Goals as goal

pub loop-place-init : goal.loop-place-init
loop-place-init c =
    let ks = c.args.variables.now in
    let old = measured_list c.args.values in
    let as_many : length old ≡ length ks = length-map c.args.values measured_view ∙ c.requires.as_many in
    subst (λ n. PutBack ks old n old) (length-map c.args.values measured_view ∙ sym c.len-place.ensures) (begun ks old as_many c.requires.rebuilt)

pub loop-place-preserved : goal.loop-place-preserved
loop-place-preserved c =
    let ks = c.args.variables.now in
    let old = measured_list c.args.values in
    let as_many : length old ≡ length ks = length-map c.args.values measured_view ∙ c.requires.as_many in
    let q = c.loop-place.place - 1 in
    let vs = c.loop-place.values in
    let one : suc q ≡ c.loop-place.place = omega (arith, c.loop-place-test.true) in
    let t : PutBack ks old (suc q) (measured_list vs) = subst (λ n. PutBack ks old n (measured_list vs)) (sym one) c.loop-place.invariant in
    let next : q + 1 ≡ suc q = omega arith in
    let own = subst (λ ms. (measured_view c.in_ok-value.value ≡ put_in_turn (paired (drop (q + 1) ks) (drop (q + 1) (measured_list ms))) (get_or (measured_list ms) q Zero)) × (turn_fits (paired (drop (q + 1) ks) (drop (q + 1) (measured_list ms))) (get_or (measured_list ms) q Zero) ≡ true)) c.as_slice.ensures c.in_ok-value.ensures in
    let there = subst (λ n. (measured_view c.in_ok-value.value ≡ put_in_turn (paired (drop n ks) (drop n (measured_list vs))) (get_or (measured_list vs) q Zero)) × (turn_fits (paired (drop n ks) (drop n (measured_list vs))) (get_or (measured_list vs) q Zero) ≡ true)) next own in
    let done = turned ks old as_many c.requires.rebuilt q (measured_list vs) (measured_view c.in_ok-value.value) t (omega (arith, t.within)) there.0 there.1 in
    subst (PutBack ks old q) (sym (ap measured_list c.put.ensures ∙ list_set vs q c.in_ok-value.value)) done

pub returns-in_err-value : goal.returns-in_err-value
returns-in_err-value c =
    let ks = c.args.variables.now in
    let old = measured_list c.args.values in
    let as_many : length old ≡ length ks = length-map c.args.values measured_view ∙ c.requires.as_many in
    let q = c.loop-place.place - 1 in
    let vs = c.loop-place.values in
    let one : suc q ≡ c.loop-place.place = omega (arith, c.loop-place-test.true) in
    let t : PutBack ks old (suc q) (measured_list vs) = subst (λ n. PutBack ks old n (measured_list vs)) (sym one) c.loop-place.invariant in
    let next : q + 1 ≡ suc q = omega arith in
    let own = subst (λ ms. Gives (Err c.in_err-value.field-0.0) (turn_fits (paired (drop (q + 1) ks) (drop (q + 1) (measured_list ms))) (get_or (measured_list ms) q Zero)) (put_in_turn (paired (drop (q + 1) ks) (drop (q + 1) (measured_list ms))) (get_or (measured_list ms) q Zero))) c.as_slice.ensures c.in_err-value.ensures in
    let there = subst (λ n. Gives (Err c.in_err-value.field-0.0) (turn_fits (paired (drop n ks) (drop n (measured_list vs))) (get_or (measured_list vs) q Zero)) (put_in_turn (paired (drop n ks) (drop n (measured_list vs))) (get_or (measured_list vs) q Zero))) next own in
    let r = err_from_is_err_and c.from_residual.result c.from_residual.ensures.1 in
    rw (r.1, r.2) (refused ks old as_many c.requires.rebuilt q (measured_list vs) c.in_err-value.field-0.0 t (omega (arith, t.within)) there)

pub returns : goal.returns
returns c =
    let ks = c.args.variables.now in
    let old = measured_list c.args.values in
    let as_many : length old ≡ length ks = length-map c.args.values measured_view ∙ c.requires.as_many in
    let zero : c.loop-place.place ≡ 0 = omega (arith, c.loop-place-test.false) in
    let e = ended ks old as_many c.requires.rebuilt (measured_list c.loop-place.values) (subst (λ n. PutBack ks old n (measured_list c.loop-place.values)) zero c.loop-place.invariant) in
    (e.0, sym (length-map c.loop-place.values measured_view) ∙ e.1, e.2)
