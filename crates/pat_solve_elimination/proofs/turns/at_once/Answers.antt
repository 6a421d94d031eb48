use Rattle.std.proofs.Common.{sym, ◌∙◌, subst}
use Rattle.pat_words_spec.specs.Patterns.{subst_of}
use Rattle.pat_inclusion_spec.specs.ClosedForms.{is_small}
use Rattle.pat_solve_bounded.specs.Views.{measured_view, measured_list}
use Rattle.pat_solve_bounded.specs.replacing.Ascending.{paired}
use Rattle.pat_solve_bounded.specs.replacing.Replacing.{listed_in}
use Rattle.pat_solve_elimination.specs.Results.{Gives}
use Rattle.pat_solve_elimination.proofs.AtOnce.{grows, all_paired}
use Rattle.pat_solve_elimination.proofs.turns.at_once.Goals as goal

pub returns : goal.returns
returns c =
    let ks = c.args.variables.now in
    let values = measured_list c.args.values.now in
    let vs = paired ks values in
    let f = measured_view c.args.f.now in
    let e = subst_of (listed_in vs) f in
    let g = grows vs f c.requires.may (all_paired ks values c.requires.rebuilt) in
    let own : Gives c.kept.result (is_small e) e = c.kept.ensures e c.in_ok-part.ensures in
    let fits = subst (λ b. Gives c.kept.result b e) (g.2 ∙ sym g.0) own in
    subst (Gives c.kept.result _) (sym g.1) fits
