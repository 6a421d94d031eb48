use Rattle.std.proofs.Common.{◌≡◌, ◌+◌, ◌-◌, suc, true, Some, length, drop, ap, sym, ◌∙◌, subst, arith}
use Rattle.std.specs.Prelude.{get_or, IfSome, slice_set}
use Rattle.std.proofs.lemmas.List.{length-map}
use Rattle.pat_words_spec.specs.Patterns.{Zero}
use Rattle.pat_solve_bounded.specs.Views.{measured_view, measured_list}
use Rattle.pat_solve_elimination.specs.Needing.{is_marked}
use Rattle.pat_solve_elimination.specs.Resolving.{AreResolved, Resolves}
use Rattle.pat_solve_elimination.proofs.Resolutions.{settled}
use Rattle.pat_solve_elimination.proofs.Steps.{list_set}
use Rattle.pat_solve_elimination.proofs.resolving.resolved_places.Goals as goal

pub loop-place-preserved-in-Some : goal.loop-place-preserved-in-Some
loop-place-preserved-in-Some c =
    let ks = c.args.variables.now in
    let es = measured_list c.args.values.now in
    let marks = c.args.marks.now in
    let q = c.loop-place.place - 1 in
    let rs = c.loop-place.known.values in
    let ws = c.loop-place.known.weights in
    let as_many : length es ≡ length ks = length-map c.args.values.now measured_view ∙ sym c.requires.as_many in
    let one : suc q ≡ c.loop-place.place = omega (arith, c.loop-place-test.true) in
    let within = c.loop-place.invariant.1 in
    let known : AreResolved ks es marks (suc q) (measured_list rs) ws = subst (λ n. AreResolved ks es marks n (measured_list rs) ws) (sym one) c.loop-place.invariant.0 in
    let marked : is_marked marks q ≡ true = sym c.is_needed.ensures ∙ c.if-is_needed.true in
    let some : c.in_ok-value.field-0 ≡ Some (c.in-Some.value, c.in-Some.weight) = (let i = c.in-Some.is in cc) in
    let found = subst (λ o. IfSome o (λ new. Resolves (drop (q + 1) ks) (drop (q + 1) (measured_list rs)) (drop (q + 1) ws) (get_or es q Zero) (measured_view new.0) new.1)) some c.in_ok-value.ensures in
    let next : q + 1 ≡ suc q = omega arith in
    let new = subst (λ n. Resolves (drop n ks) (drop n (measured_list rs)) (drop n ws) (get_or es q Zero) (measured_view c.in-Some.value) c.in-Some.weight) next found in
    let done = settled ks es marks as_many c.requires.rebuilt c.requires.closed q (measured_list rs) ws (measured_view c.in-Some.value) c.in-Some.weight known (omega (arith, one, within)) marked new in
    let values : measured_list c.put.new.known.values ≡ slice_set (measured_list rs) q (measured_view c.in-Some.value) = ap measured_list c.put.ensures.values ∙ list_set rs q c.in-Some.value in
    (rw (values, c.put.ensures.weights) done, omega (arith, within))
