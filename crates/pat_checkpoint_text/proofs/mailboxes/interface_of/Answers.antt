use Rattle.std.proofs.Common.{length, ap, sym, ◌∙◌, refl, subst, rules}
use Rattle.std.specs.Prelude.{Ok, Err, slice_get}
use Rattle.std.specs.List.Sorted.{IsBinarySearchResult}
use Rattle.std.specs.Ordering.{nat_cmp}
use Rattle.std.proofs.lemmas.Option.{slice_get_read}
use Rattle.pat_checkpoint_text.proofs.Found.{found, no_place, not_found}
use Rattle.pat_checkpoint_text.proofs.mailboxes.interface_of.Goals as goal

pub returns-in-Some : goal.returns-in-Some
returns-in-Some c = λ lines g.
    let b = c.args.mailbox in
    let place : IsBinarySearchResult (λ y. nat_cmp y b) c.args.x.now.config.live (Ok c.in-Ok.place) =
    subst (λ l. IsBinarySearchResult (λ y. nat_cmp y b) l (Ok c.in-Ok.place)) c.as_slice.ensures (subst (IsBinarySearchResult (λ y. nat_cmp y b) c.as_slice.result.now) c.in-Ok.is c.binary_search.ensures.position) in
    let own = c.as_slice-in-Ok.result.now in
    found lines.mailboxes c.args.x.now.config.live b g.live g.ascends c.in-Ok.place c.in-Some.interface.now c.args.x.now.interfaces place g.interfaces
    (ap (λ l. slice_get l c.in-Ok.place) (sym c.as_slice-in-Ok.ensures) ∙ slice_get_read own (length own) c.in-Ok.place c.in-Some.interface.now refl c.in-Some.ensures.lookup.3.0 c.in-Some.ensures.lookup.1)

pub returns-in-None : goal.returns-in-None
returns-in-None c = λ lines g.
    let b = c.args.mailbox in
    let place : IsBinarySearchResult (λ y. nat_cmp y b) c.args.x.now.config.live (Ok c.in-Ok.place) =
    subst (λ l. IsBinarySearchResult (λ y. nat_cmp y b) l (Ok c.in-Ok.place)) c.as_slice.ensures (subst (IsBinarySearchResult (λ y. nat_cmp y b) c.as_slice.result.now) c.in-Ok.is c.binary_search.ensures.position) in
    no_place lines.mailboxes c.args.x.now.config.live b g.live g.ascends c.in-Ok.place c.args.x.now.interfaces place g.interfaces (search rules)

pub returns-in-Err : goal.returns-in-Err
returns-in-Err c = λ lines g.
    let b = c.args.mailbox in
    not_found lines.mailboxes c.args.x.now.config.live b g.live g.ascends c.in-Err.field-0
    (subst (λ l. IsBinarySearchResult (λ y. nat_cmp y b) l (Err c.in-Err.field-0)) c.as_slice.ensures (subst (IsBinarySearchResult (λ y. nat_cmp y b) c.as_slice.result.now) c.in-Err.is c.binary_search.ensures.position))
