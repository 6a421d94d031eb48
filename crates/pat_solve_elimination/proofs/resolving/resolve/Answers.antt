use Rattle.std.proofs.Common.{◌≡◌, ℕ, ◌+◌, ◌-◌, ◌<◌, List, length, take, drop, sym, subst}
use Rattle.std.specs.Prelude.{get_or, IfOk, IfSome}
use Rattle.std.proofs.lemmas.List.{get_or-map}
use Rattle.pat_words_spec.specs.Patterns.{Pat, Zero}
use Rattle.pat_solve_bounded.specs.Views.{measured_view, measured_list}
use Rattle.pat_solve_elimination.specs.declared.growing.Growth.{Growth}
use Rattle.pat_solve_elimination.specs.Resolving.{Resolves}
use Rattle.pat_solve_elimination.specs.Rounds.{IsRebuilt}
use Rattle.pat_solve_elimination.proofs.Rebuilt.{all_at}
use Rattle.pat_solve_elimination.proofs.Pairs.{rest_is}
use Rattle.pat_solve_elimination.proofs.Steps.{list_from}
use Rattle.pat_solve_elimination.proofs.resolving.resolve.Goals as goal

pub put_later-requires-clause-own : goal.put_later-requires-clause-own
put_later-requires-clause-own c =
    let vs = c.args.values.now in
    let own : measured_view c.index-values-place.result ≡ get_or (measured_list vs) c.args.place Zero =
    (let e = get_or-map measured_view vs c.args.place c.index-values-place.result Zero (subst (λ n. c.args.place < n) c.requires.as_many c.requires.place) in let i = c.index-values-place.is in cc) in
    subst IsRebuilt (sym own) (all_at (measured_list vs) c.args.place c.requires.rebuilt)

pub returns : goal.returns
returns c =
    let n = c.args.place + 1 in
    let ks = c.args.variables.now in
    let vs = c.args.values.now in
    let ss = c.as_slice-settled.result.now in
    let ts = c.as_slice-weights.result.now in
    let e = measured_view c.index-values-place.result in
    let own : e ≡ get_or (measured_list vs) c.args.place Zero =
    (let e = get_or-map measured_view vs c.args.place c.index-values-place.result Zero (subst (λ n. c.args.place < n) c.requires.as_many c.requires.place) in let i = c.index-values-place.is in cc) in
    let P = λ (a : List ℕ) (b : List Pat) (w : List Growth) (x : Pat). IfOk c.put_later.result (λ made. IfSome made (λ new. Resolves a b w x (measured_view new.0) new.1)) in
    let first = subst (λ a. P a (measured_list (take (length ss - n) (drop n ss))) (take (length ts - n) (drop n ts)) e) (rest_is ks n) c.put_later.ensures in
    let second = subst (λ b. P (drop n ks) (measured_list b) (take (length ts - n) (drop n ts)) e) (rest_is ss n) first in
    let third = subst (λ b. P (drop n ks) b (take (length ts - n) (drop n ts)) e) (list_from ss n) second in
    let fourth = subst (λ w. P (drop n ks) (drop n (measured_list ss)) w e) (rest_is ts n) third in
    let fifth = subst (λ x. P (drop n ks) (drop n (measured_list ss)) (drop n ts) x) own fourth in
    let sixth = subst (λ s. P (drop n ks) (drop n (measured_list s)) (drop n ts) (get_or (measured_list vs) c.args.place Zero)) c.as_slice-settled.ensures fifth in
    subst (λ t. P (drop n ks) (drop n (measured_list c.args.known.now.values)) (drop n t) (get_or (measured_list vs) c.args.place Zero)) c.as_slice-weights.ensures sixth
