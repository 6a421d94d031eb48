use Rattle.std.proofs.Common.{Ok, Err, subst}
use Rattle.std.specs.List.Sorted.{IsBinarySearchResult}
use Rattle.std.specs.Ordering.{nat_cmp}
use Rattle.pat_derivations.proofs.Rising.{found_among}
use Rattle.pat_derivations.proofs.environments.names.holds_rising.Goals as goal

pub returns-in-Ok : goal.returns-in-Ok
returns-in-Ok c =
    let names = c.args.names.now in
    let x = c.args.name in
    found_among names x (Ok c.in-Ok.place) (subst (IsBinarySearchResult (λ y. nat_cmp y x) names) c.in-Ok.is c.binary_search.ensures.position) c.requires

pub returns-in-Err : goal.returns-in-Err
returns-in-Err c =
    let names = c.args.names.now in
    let x = c.args.name in
    found_among names x (Err c.in-Err.place) (subst (IsBinarySearchResult (λ y. nat_cmp y x) names) c.in-Err.is c.binary_search.ensures.position) c.requires
