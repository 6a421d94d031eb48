use Rattle.std.proofs.Common.{◌≡◌, ◌≤◌, ◌-◌, true, false, length, sym, ◌∙◌, subst, arith}
use Rattle.std.proofs.lemmas.List.{length-map}
use Rattle.std.proofs.lemmas.Bool.{leb-true, eq-eqb}
use Rattle.pat_patterns.specs.postfix_form.Views.{pointed}
use Rattle.pat_solve_bounded.specs.Views.{measured_view, measured_list}
use Rattle.pat_solve_bounded.proofs.Limited.{sizes}
use Rattle.pat_solve_bounded.specs.replacing.Ascending.{paired}
use Rattle.pat_solve_elimination.proofs.Growths.{SoFar, grown_up, some_pair}
use Rattle.pat_solve_elimination.proofs.growing.may_grow.Goals as goal
use Rattle.pat_limits.specs.Limits.{most_levels}

pub returns : goal.returns
returns c told =
    let ks = c.args.variables.now in
    let vs = measured_list c.args.values.now in
    let f = c.args.f.now in
    let growth = c.loop-part.growth in
    let as_many : length ks ≡ length vs = c.requires.as_many ∙ sym (length-map c.args.values.now measured_view) in
    let some : length ks ≡ 0 → ⊥ = λ none. let clash : true ≡ false = sym (eq-eqb (length ks) 0 none) ∙ sym c.is_empty.ensures ∙ c.if-is_empty.false in cc in
    let fits : growth.levels ≤ most_levels - f.levels = leb-true growth.levels (most_levels - f.levels) told in
    let whole = sizes (measured_view f) f.sizes.small in
    let levels = f.sizes.levels_are in
    let so = subst (λ es. SoFar (paired ks vs) (measured_view f) growth (pointed es)) c.in_default.ensures.none.0 c.loop-part.invariant in
    grown_up (paired ks vs) (measured_view f) growth (some_pair ks vs as_many some) so (omega (arith, fits, whole.1, levels))
