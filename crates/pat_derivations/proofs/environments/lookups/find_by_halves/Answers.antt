use Rattle.std.proofs.Common.{length, rules, subst}
use Rattle.std.specs.List.Sorted.{IsSearchInRange, IsBinarySearchResult}
use Rattle.std.specs.Ordering.{nat_cmp}
use Rattle.std.proofs.lemmas.List.Sorted.{answers_always}
use Rattle.pat_derivations.proofs.Halving.{found, not_found}
use Rattle.pat_derivations.proofs.environments.lookups.find_by_halves.Goals as goal

pub returns-in-Ok : goal.returns-in-Ok
returns-in-Ok c =
    let facts = c.binary_search_by_key.ensures in
    let by_key = facts.position (λ own. own.0) (answers_always _ _ _ (λ f a r g called. search rules)) in
    let es = c.args.env.now in
    let x = c.args.variable in
    found es x c.requires c.in-Ok.place _ (subst (λ r. IsSearchInRange r (length es)) c.in-Ok.is facts.bound) (subst (λ r. IsBinarySearchResult (λ e. nat_cmp e.0 x) es r) c.in-Ok.is by_key)

pub returns-in-Err : goal.returns-in-Err
returns-in-Err c =
    let facts = c.binary_search_by_key.ensures in
    let by_key = facts.position (λ own. own.0) (answers_always _ _ _ (λ f a r g called. search rules)) in
    let es = c.args.env.now in
    let x = c.args.variable in
    not_found es x c.requires c.in-Err.place (subst (λ r. IsBinarySearchResult (λ e. nat_cmp e.0 x) es r) c.in-Err.is by_key)
