use Rattle.std.proofs.Common.{◌≡◌, subst, arith}
use Rattle.std.specs.Prelude.{get_or}
use Rattle.std.proofs.lemmas.List.{get_or-map}
use Rattle.pat_words_spec.specs.Patterns.{Zero}
use Rattle.pat_inclusion_spec.specs.ClosedForms.{is_small}
use Rattle.pat_solve_spec.specs.Assignments.{put_one}
use Rattle.pat_solve_bounded.specs.Views.{measured_view, measured_list}
use Rattle.pat_solve_elimination.specs.Results.{Gives}
use Rattle.pat_solve_elimination.proofs.turns.turn.Goals as goal

pub returns : goal.returns
returns c =
    let k = get_or c.args.variables.now c.args.place 0 in
    let m = measured_view c.args.made.now in
    let value : measured_view c.index-values-place.result ≡ get_or (measured_list c.args.values.now) c.args.place Zero =
    (let e = get_or-map measured_view c.args.values.now c.args.place c.index-values-place.result Zero (omega (arith, c.requires.place, c.requires.as_many)) in let i = c.index-values-place.is in cc) in
    subst (λ v. Gives c.put_one.result (is_small (put_one k v m)) (put_one k v m)) value c.put_one.ensures
