use Rattle.std.proofs.Common.{[], length, sym, ap, ◌∙◌, subst}
use Rattle.std.specs.Prelude.{get_or}
use Rattle.std.proofs.lemmas.List.{length-map}
use Rattle.pat_solve_bounds.specs.lower_bounds.Sides.{sides_view, sides_list}
use Rattle.pat_solve_bounds.specs.productive.Rights.{RightsBelow}
use Rattle.pat_solve_bounds.specs.productive.Users.{HasUsers}
use Rattle.pat_solve_bounds.specs.productive.Spreading.{IsSpread, numbers_below}
use Rattle.pat_solve_bounds.proofs.Turns.{begun, taken, ended}
use Rattle.pat_solve_bounds.proofs.productive.spreading.usable_variables.Goals as goal

pub look_at_each-requires : goal.look_at_each-requires
look_at_each-requires c =
    let constraints = c.args.constraints.now in
    begun (sides_list constraints) c.as_slice.result.now c.deref_mut.result.now c.new-waiting.result c.args.count
    (c.deref_mut.ensures.value ∙ c.in_ok-flags.ensures)
    (c.as_slice.ensures ∙ c.in_ok-all.ensures ∙ ap numbers_below (sym (length-map constraints sides_view)))

pub look_at_each-requires-in-Some : goal.look_at_each-requires-in-Some
look_at_each-requires-in-Some c =
    let cs = sides_list c.args.constraints.now in
    let users = c.in_ok-users.users in
    let v = c.in-Some.variable in
    let flags = c.loop-variable.flags.items in
    let was = subst (IsSpread cs [] flags) c.in-Some.ensures.some c.loop-variable.invariant.0 in
    let has = subst (λ n. HasUsers cs n users) (sym c.loop-variable.invariant.1) c.in_ok-users.ensures in
    subst (λ fs. IsSpread cs c.users_at-numbers.result.now fs c.pop.new.self) (sym c.deref_mut-in-Some.ensures.value)
    (subst (λ ns. IsSpread cs ns flags c.pop.new.self) (sym (c.users_at-numbers.ensures ∙ ap (λ us. get_or us v []) c.as_slice-in-Some.ensures))
    (taken cs users flags v c.pop.new.self has was))

pub returns : goal.returns
returns c =
    let cs = sides_list c.args.constraints.now in
    ended cs c.from_vec.result c.loop-variable.waiting
    (subst (λ n. RightsBelow n cs) (sym (ap length c.from_vec.ensures ∙ c.loop-variable.invariant.1)) c.requires)
    c.in_default.ensures.none.0
    (subst (λ fs. IsSpread cs [] fs c.loop-variable.waiting) (sym c.from_vec.ensures) c.loop-variable.invariant.0)
