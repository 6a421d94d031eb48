use Rattle.std.proofs.Common.{◌≡◌, arith, subst}
use Rattle.std.specs.Prelude.{get_or, option_map}
use Rattle.pat_inclusion_spec.specs.bounds.Assignments.{lower_of}
use Rattle.pat_solve_bounded.specs.Limits.{within}
use Rattle.pat_solve_bounded.specs.Views.{measured_view}
use Rattle.pat_solve_bounds.specs.lower_bounds.Sides.{sides_list}
use Rattle.pat_solve_closed_forms.proofs.Rounding.{lower_more, lower_none, lower_all}
use Rattle.pat_solve_closed_forms.proofs.lowers.lower_bounds.Goals as goal

pub loop-variable-preserved : goal.loop-variable-preserved
loop-variable-preserved c =
    let f = lower_of (sides_list c.args.problem.now.constraints) in
    let ks = c.args.variables.now in
    let i = c.loop-variable.variable-index in
    let own = subst (λ o. option_map measured_view o ≡ within (f (get_or ks i 0))) c.in-Some.is c.in_ok-lower.ensures in
    lower_more f ks i c.loop-variable-test.true c.loop-variable.lowers c.push.new.self c.in-Some.own own c.in_ok-push-in-Some.ensures.ok c.loop-variable.invariant

pub returns-in-None : goal.returns-in-None
returns-in-None c =
    let f = lower_of (sides_list c.args.problem.now.constraints) in
    let ks = c.args.variables.now in
    let i = c.loop-variable.variable-index in
    lower_none f ks i c.loop-variable-test.true (subst (λ o. option_map measured_view o ≡ within (f (get_or ks i 0))) c.in-None.is c.in_ok-lower.ensures)

pub returns : goal.returns
returns c =
    lower_all (lower_of (sides_list c.args.problem.now.constraints)) c.args.variables.now c.loop-variable.variable-index c.loop-variable.lowers (let e = c.loop-variable-test.false in omega arith) c.loop-variable.invariant
