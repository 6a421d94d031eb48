use Rattle.std.proofs.Common.{Ok, Err, subst}
use Rattle.std.specs.List.Sorted.{IsBinarySearchResult}
use Rattle.std.specs.Ordering.{nat_cmp}
use Rattle.pat_checkpoint_numbers.proofs.Halved.{found, not_found}
use Rattle.pat_checkpoint_numbers.proofs.live.place_of.Goals as goal

pub returns-in-Ok-clause-some : goal.returns-in-Ok-clause-some
returns-in-Ok-clause-some c =
    let live = c.args.live.now in
    found live c.args.mailbox c.requires c.in-Ok.place (subst (IsBinarySearchResult (λ y. nat_cmp y c.args.mailbox) live) c.in-Ok.is c.binary_search.ensures.position)

pub returns-in-Err-clause-none : goal.returns-in-Err-clause-none
returns-in-Err-clause-none c =
    let live = c.args.live.now in
    not_found live c.args.mailbox c.requires c.in-Err.field-0 (subst (IsBinarySearchResult (λ y. nat_cmp y c.args.mailbox) live) c.in-Err.is c.binary_search.ensures.position)
