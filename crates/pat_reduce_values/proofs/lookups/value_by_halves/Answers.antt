use Rattle.std.proofs.Common.{◌∙◌, ap, length, rules, subst, Some}
use Rattle.std.specs.List.Sorted.{IsSearchInRange, IsBinarySearchResult}
use Rattle.std.specs.Ordering.{nat_cmp}
use Rattle.std.proofs.lemmas.List.Sorted.{answers_always}
use Rattle.pat_reduce_values.proofs.Halving.{found, not_found, value_there}
use Rattle.pat_reduce_values.proofs.lookups.value_by_halves.Goals as goal

pub returns-in-Some : goal.returns-in-Some
returns-in-Some c = ap Some c.borrow.ensures ∙ value_there 0 c.args.env.now c.args.variable c.in-Some.place _ c.requires c.in-Some.ensures.within (c.in-Some.ensures.there _)

pub returns-in-Ok : goal.returns-in-Ok
returns-in-Ok c =
    let facts = c.binary_search_by_key.ensures in
    let by_key = facts.position (λ own. own.0) (answers_always _ _ _ (λ f a r g called. search rules)) in
    let es = c.args.env.now in
    let x = c.args.variable in
    ap Some c.borrow-in-Ok.ensures
    ∙ found es x c.requires c.in-Ok.place _ (subst (λ r. IsSearchInRange r (length es)) c.in-Ok.is facts.bound) (subst (λ r. IsBinarySearchResult (λ e. nat_cmp e.0 x) es r) c.in-Ok.is by_key)

pub returns-in-Err : goal.returns-in-Err
returns-in-Err c =
    let facts = c.binary_search_by_key.ensures in
    let by_key = facts.position (λ own. own.0) (answers_always _ _ _ (λ f a r g called. search rules)) in
    let es = c.args.env.now in
    let x = c.args.variable in
    not_found es x c.requires c.in-Err.field-0 (subst (λ r. IsBinarySearchResult (λ e. nat_cmp e.0 x) es r) c.in-Err.is by_key)
