use Rattle.std.proofs.Common.{◌≡◌, ◌+◌, ◌-◌, length, take, drop, sym, subst}
use Rattle.std.specs.Prelude.{get_or}
use Rattle.std.specs.List.{AllByRecursion}
use Rattle.std.proofs.lemmas.List.{get_or-map}
use Rattle.pat_words_spec.specs.Patterns.{Zero}
use Rattle.pat_solve_spec.specs.Assignments.{put_in_turn}
use Rattle.pat_solve_bounded.specs.Views.{measured_view, measured_list}
use Rattle.pat_solve_bounded.specs.replacing.Ascending.{IsAscending, paired}
use Rattle.pat_solve_elimination.specs.Rounds.{IsRebuilt, turn_fits}
use Rattle.pat_solve_elimination.specs.Results.{Gives}
use Rattle.pat_solve_elimination.proofs.Rebuilt.{all_at}
use Rattle.pat_solve_elimination.proofs.Pairs.{drop_ascends, all_from, rest_is}
use Rattle.pat_solve_elimination.proofs.Steps.{list_from}
use Rattle.pat_solve_elimination.proofs.assignment.second.put_later.Goals as goal

pub in_turn_rebuilt-requires-clause-ascending : goal.in_turn_rebuilt-requires-clause-ascending
in_turn_rebuilt-requires-clause-ascending c =
    subst IsAscending (sym (rest_is c.args.variables.now (c.args.place + 1)))
    (drop_ascends c.args.variables.now (c.args.place + 1) c.requires.ascending)

pub in_turn_rebuilt-requires-clause-rebuilt : goal.in_turn_rebuilt-requires-clause-rebuilt
in_turn_rebuilt-requires-clause-rebuilt c =
    let n = c.args.place + 1 in
    subst (λ vs. AllByRecursion IsRebuilt (measured_list vs)) (sym (rest_is c.args.values.now n))
    (subst (AllByRecursion IsRebuilt) (sym (list_from c.args.values.now n)) (all_from (measured_list c.args.values.now) n c.requires.rebuilt))

pub in_turn_rebuilt-requires-clause-own : goal.in_turn_rebuilt-requires-clause-own
in_turn_rebuilt-requires-clause-own c =
    let vs = c.args.values.now in
    let own : measured_view c.index-values-place.result ≡ get_or (measured_list vs) c.args.place Zero =
    (let e = get_or-map measured_view vs c.args.place c.index-values-place.result Zero c.requires.place in let i = c.index-values-place.is in cc) in
    subst IsRebuilt (sym own) (all_at (measured_list vs) c.args.place c.requires.rebuilt)

pub returns : goal.returns
returns c =
    let n = c.args.place + 1 in
    let ks = c.args.variables.now in
    let vs = c.args.values.now in
    let r = c.in_turn_rebuilt.result in
    let f = measured_view c.index-values-place.result in
    let own : f ≡ get_or (measured_list vs) c.args.place Zero =
    (let e = get_or-map measured_view vs c.args.place c.index-values-place.result Zero c.requires.place in let i = c.index-values-place.is in cc) in
    let first = subst (λ x. Gives r (turn_fits (paired x (measured_list (take (length vs - n) (drop n vs)))) f) (put_in_turn (paired x (measured_list (take (length vs - n) (drop n vs)))) f)) (rest_is ks n) c.in_turn_rebuilt.ensures in
    let second = subst (λ x. Gives r (turn_fits (paired (drop n ks) (measured_list x)) f) (put_in_turn (paired (drop n ks) (measured_list x)) f)) (rest_is vs n) first in
    let third = subst (λ x. Gives r (turn_fits (paired (drop n ks) x) f) (put_in_turn (paired (drop n ks) x) f)) (list_from vs n) second in
    subst (λ x. Gives r (turn_fits (paired (drop n ks) (drop n (measured_list vs))) x) (put_in_turn (paired (drop n ks) (drop n (measured_list vs))) x)) own third
