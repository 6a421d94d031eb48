use Rattle.std.proofs.Common.{◌≡◌, ◌≤◌, true, false, Some, length, sym, ◌∙◌, subst, arith}
use Rattle.std.specs.Prelude.{IfSome}
use Rattle.std.proofs.lemmas.List.{length-map}
use Rattle.std.proofs.lemmas.Bool.{eq-eqb}
use Rattle.pat_solve_bounded.specs.Views.{measured_view, measured_list}
use Rattle.pat_solve_bounded.specs.replacing.Ascending.{paired}
use Rattle.pat_solve_elimination.specs.Resolving.{AreResolved}
use Rattle.pat_solve_elimination.specs.Weighing.{weighed, deep, nodes_by, levels_by}
use Rattle.pat_solve_elimination.proofs.Growths.{some_pair}
use Rattle.pat_solve_elimination.proofs.Weights.{turns_within}
use Rattle.pat_solve_elimination.proofs.Resolutions.{same_values, more_nodes, more_levels}
use Rattle.pat_solve_elimination.proofs.resolving.resolved.Goals as goal
use Rattle.pat_limits.specs.Limits.{most_nodes, most_levels}

pub returns-in-Some-2-clause-fits : goal.returns-in-Some-2-clause-fits
returns-in-Some-2-clause-fits c =
    let ks = c.args.variables.now in
    let es = measured_list c.args.values.now in
    let f = measured_view c.args.f.now in
    let marks = c.in_ok-marks.marks.items in
    let rs = measured_list c.in-Some.known.values in
    let ws = c.in-Some.known.weights in
    let whole = c.in-Some-2.field-0 in
    let as_many : length es ≡ length ks = length-map c.args.values.now measured_view ∙ sym c.requires.as_many in
    let some : c.in_ok-known.field-0 ≡ Some c.in-Some.known = (let i = c.in-Some.is in cc) in
    let known : AreResolved ks es marks 0 rs ws =
    subst (λ m. AreResolved ks es m 0 rs ws) c.as_slice.ensures.value
    (subst (λ o. IfSome o (λ k. AreResolved ks es c.as_slice.result.now 0 (measured_list k.values) k.weights)) some c.in_ok-known.ensures) in
    let weighs : c.in_ok-weigh-in-Some.field-0 ≡ Some whole = (let i = c.in-Some-2.is in cc) in
    let nodes = subst (λ x. (weighed (nodes_by ks x) f ≤ whole.nodes) × (whole.nodes ≤ most_nodes)) c.as_slice-in-Some.ensures
    (subst (λ o. IfSome o (λ w. (weighed (nodes_by ks c.as_slice-in-Some.result.now) f ≤ w.nodes) × (w.nodes ≤ most_nodes))) weighs c.in_ok-weigh-in-Some.ensures.nodes) in
    let levels = subst (λ x. (deep (levels_by ks x) f ≤ whole.levels) × (whole.levels ≤ most_levels)) c.as_slice-in-Some.ensures
    (subst (λ o. IfSome o (λ w. (deep (levels_by ks c.as_slice-in-Some.result.now) f ≤ w.levels) × (w.levels ≤ most_levels))) weighs c.in_ok-weigh-in-Some.ensures.levels) in
    let a = more_nodes ks es marks 0 rs ws as_many known f c.in_ok-marks.ensures.own in
    let b = more_levels ks es marks 0 rs ws as_many known f c.in_ok-marks.ensures.own in
    let n = nodes.0 in
    let m = nodes.1 in
    let l = levels.0 in
    let k = levels.1 in
    turns_within (paired ks es) f (omega (arith, a, n, m)) (omega (arith, b, l, k))

pub returns-in-Some-2-clause-same : goal.returns-in-Some-2-clause-same
returns-in-Some-2-clause-same c =
    let ks = c.args.variables.now in
    let es = measured_list c.args.values.now in
    let f = measured_view c.args.f.now in
    let marks = c.in_ok-marks.marks.items in
    let rs = measured_list c.in-Some.known.values in
    let ws = c.in-Some.known.weights in
    let as_many : length es ≡ length ks = length-map c.args.values.now measured_view ∙ sym c.requires.as_many in
    let some : c.in_ok-known.field-0 ≡ Some c.in-Some.known = (let i = c.in-Some.is in cc) in
    let known : AreResolved ks es marks 0 rs ws =
    subst (λ m. AreResolved ks es m 0 rs ws) c.as_slice.ensures.value
    (subst (λ o. IfSome o (λ k. AreResolved ks es c.as_slice.result.now 0 (measured_list k.values) k.weights)) some c.in_ok-known.ensures) in
    let there : length ks ≡ 0 → ⊥ = λ none. let clash : true ≡ false = sym (eq-eqb (length ks) 0 none) ∙ sym c.is_empty.ensures ∙ c.if-is_empty.false in cc in
    same_values ks es marks 0 rs ws as_many known f c.in_ok-marks.ensures.own (λ none. absurd (some_pair ks es (sym as_many) there none)) c.requires.rebuilt
