use Rattle.std.proofs.Common.{◌≡◌, true, sym, ap, ◌∙◌, subst}
use Rattle.pat_words_spec.specs.Patterns.{subst_of}
use Rattle.pat_inclusion_spec.specs.ClosedForms.{is_small}
use Rattle.pat_solve_bounded.specs.Views.{measured_view, measured_list}
use Rattle.pat_solve_bounded.specs.replacing.Ascending.{paired}
use Rattle.pat_solve_bounded.specs.replacing.Replacing.{listed_in}
use Rattle.pat_solve_elimination.specs.Results.{Gives}
use Rattle.pat_solve_elimination.specs.Rounds.{turn_fits}
use Rattle.pat_solve_elimination.proofs.Resolutions.{ends_small}
use Rattle.pat_solve_elimination.proofs.turns.by_settled.Goals as goal

pub returns : goal.returns
returns c vs some fits same =
    let f = measured_view c.args.f.now in
    let e = subst_of (listed_in (paired c.args.variables.now (measured_list c.args.settled.now))) f in
    let own : Gives c.kept.result (is_small e) e = c.kept.ensures e c.in_ok-part.ensures in
    let small : is_small e ≡ true = ap is_small same ∙ ends_small vs f some fits in
    let fit = subst (λ b. Gives c.kept.result b e) (small ∙ sym fits) own in
    subst (Gives c.kept.result (turn_fits vs f)) same fit
