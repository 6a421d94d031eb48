use Rattle.std.proofs.Common.{◌≡◌, take, subst, arith}
use Rattle.std.specs.Prelude.{get_or}
use Rattle.std.proofs.lemmas.List.{get_or-map}
use Rattle.pat_words_spec.specs.Patterns.{Zero}
use Rattle.pat_solve_bounded.specs.Views.{measured_view, measured_list}
use Rattle.pat_solve_bounded.specs.replacing.Ascending.{paired}
use Rattle.pat_solve_elimination.specs.Rounds.{next_value, next_fits}
use Rattle.pat_solve_elimination.specs.Results.{Gives}
use Rattle.pat_solve_elimination.proofs.Pairs.{take_ascends}
use Rattle.pat_solve_elimination.proofs.assignment.first.next.Goals as goal

pub eliminate-requires-clause-ascending : goal.eliminate-requires-clause-ascending
eliminate-requires-clause-ascending c = take_ascends c.args.variables.now c.args.place c.requires.ascending

pub returns : goal.returns
returns c =
    let k = get_or c.args.variables.now c.args.place 0 in
    let done = paired (take c.args.place c.args.variables.now) (measured_list c.args.values.now) in
    let lower : measured_view c.index-lowers-place.result ≡ get_or (measured_list c.args.lowers.now) c.args.place Zero =
    (let e = get_or-map measured_view c.args.lowers.now c.args.place c.index-lowers-place.result Zero (omega (arith, c.requires.place, c.requires.as_many)) in let i = c.index-lowers-place.is in cc) in
    subst (λ f. Gives c.eliminate.result (next_fits done k f) (next_value done k f)) lower c.eliminate.ensures
