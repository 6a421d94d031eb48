use Rattle.std.proofs.Common.{subst}
use Rattle.std.specs.List.Sorted.{IsBinarySearchResult}
use Rattle.std.specs.Ordering.{nat_cmp}
use Rattle.pat_checkpoint_print.proofs.Found.{found, not_found}
use Rattle.pat_checkpoint_print.proofs.places.interface_of.Goals as goal

pub returns-in-Ok : goal.returns-in-Ok
returns-in-Ok c =
    let live = c.args.live.now in
    let b = c.args.mailbox in
    found live c.args.interfaces.now b c.in-Ok.place 0 c.requires.order (subst (IsBinarySearchResult (λ e. nat_cmp e b) live) c.in-Ok.is c.binary_search.ensures.position) c.requires.as_many

pub returns-in-Err : goal.returns-in-Err
returns-in-Err c certs also =
    let live = c.args.live.now in
    let b = c.args.mailbox in
    not_found live c.args.interfaces.now b c.in-Err.field-0 c.requires.order (subst (IsBinarySearchResult (λ e. nat_cmp e b) live) c.in-Err.is c.binary_search.ensures.position) certs
