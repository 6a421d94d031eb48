use Rattle.std.proofs.Common.{◌≡◌, length, map, sym, ap, ◌∙◌, subst}
use Rattle.std.proofs.lemmas.List.{length-map}
use Rattle.std.specs.List.{list_all}
use Rattle.pat_inclusion_spec.specs.ClosedForms.{is_small}
use Rattle.pat_inclusion_spec.specs.bounds.Assignments.{lower_of}
use Rattle.pat_solve_bounded.specs.Views.{measured_view, measured_list}
use Rattle.pat_solve_bounds.specs.lower_bounds.Sides.{sides_list}
use Rattle.pat_solve_closed_forms.specs.Rounds.{LowersAre}
use Rattle.pat_solve_closed_forms.proofs.Rounding.{lowers_large}
use Rattle.pat_solve_closed_forms.proofs.lowers.round_values.Goals as goal

pub rounds_by-requires-clause-as_many : goal.rounds_by-requires-clause-as_many
rounds_by-requires-clause-as_many c =
    let ks = c.args.variables.now in
    let f = lower_of (sides_list c.args.problem.now.constraints) in
    let own : measured_list c.in-Some.own ≡ map f ks = subst (LowersAre (map f ks)) c.in-Some.is c.in_ok-lowers.ensures in
    sym (length-map ks f) ∙ ap length (sym own) ∙ length-map c.in-Some.own measured_view

pub returns-in-Some : goal.returns-in-Some
returns-in-Some c cs e =
    let ks = c.args.variables.now in
    let f = lower_of (sides_list c.args.problem.now.constraints) in
    let own : measured_list c.in-Some.own ≡ map f ks = subst (LowersAre (map f ks)) c.in-Some.is c.in_ok-lowers.ensures in
    c.rounds_by.ensures cs (e ∙ sym own)

pub returns-in-None : goal.returns-in-None
returns-in-None c cs e =
    let ks = c.args.variables.now in
    let f = lower_of (sides_list c.args.problem.now.constraints) in
    lowers_large cs ks (ap (list_all is_small) e ∙ subst (LowersAre (map f ks)) c.in-None.is c.in_ok-lowers.ensures)
