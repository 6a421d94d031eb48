use Rattle.std.proofs.Common.{subst}
use Rattle.std.specs.List.Sorted.{IsBinarySearchResult}
use Rattle.std.specs.Ordering.{nat_cmp}
use Rattle.pat_checkpoint_balances.proofs.Halves.{found, not_found}
use Rattle.pat_checkpoint_balances.proofs.places.place_of.Goals as goal

pub returns-in-Ok-clause-found : goal.returns-in-Ok-clause-found
returns-in-Ok-clause-found c =
    found c.args.live.now c.args.mailbox c.requires c.in-Ok.place (subst (λ r. IsBinarySearchResult (λ y. nat_cmp y c.args.mailbox) c.args.live.now r) c.in-Ok.is c.binary_search.ensures.position)

pub returns-in-Err-clause-none : goal.returns-in-Err-clause-none
returns-in-Err-clause-none c =
    not_found c.args.live.now c.args.mailbox c.requires c.in-Err.field-0 (subst (λ r. IsBinarySearchResult (λ y. nat_cmp y c.args.mailbox) c.args.live.now r) c.in-Err.is c.binary_search.ensures.position)
