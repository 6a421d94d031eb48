use Rattle.std.proofs.Common.{◌≡◌, ◌<◌, ◌⊎◌, ⊎_elim, Ok, Err, sym, ap, ◌∙◌, subst, arith}
use Rattle.std.specs.Prelude.{slice_get, unwrap_or}
use Rattle.std.proofs.lemmas.Bool.{cases_order}
use Rattle.std.proofs.lemmas.List.Sorted.{searched}
use Rattle.pat_semantics_spec.specs.Orders.{AscendsFrom}
use Rattle.pat_checkpoint_spec.specs.Checkpoints.{interface_at}
use Rattle.pat_checkpoint_run.proofs.InterfacesFound.{rises, stands_at, absent}
use Rattle.pat_checkpoint_run.proofs.mailboxes.FirstMailboxes.first_interface.Goals as goal

pub returns-in-Ok : goal.returns-in-Ok
returns-in-Ok c =
    let live = c.as_slice.result.now in
    let up = subst (AscendsFrom 0) (sym c.as_slice.ensures) c.requires in
    let found = searched live c.args.mailbox (Ok c.in-Ok.place) c.in-Ok.ensures.position (rises live up) in
    c.number_at.ensures
    ∙ ap (λ l. unwrap_or (slice_get l c.in-Ok.place) 0) c.as_slice-in-Ok.ensures
    ∙ sym (stands_at live c.args.self.now.interfaces c.args.mailbox c.in-Ok.place up found.0 found.1)
    ∙ ap (λ l. interface_at l c.args.self.now.interfaces c.args.mailbox) c.as_slice.ensures

pub returns-in-Err : goal.returns-in-Err
returns-in-Err c =
    let live = c.as_slice.result.now in
    let up = subst (AscendsFrom 0) (sym c.as_slice.ensures) c.requires in
    let gap = searched live c.args.mailbox (Err c.in-Err.field-0) c.in-Err.ensures.position (rises live up) in
    sym (absent live c.args.self.now.interfaces c.args.mailbox (λ i within at. ⊎_elim
    (λ (s : i ≡ c.in-Err.field-0). let above = gap.2 i (omega arith) within in omega arith)
    (λ (o : (i < c.in-Err.field-0) ⊎ (c.in-Err.field-0 < i)). ⊎_elim
    (λ (x : i < c.in-Err.field-0). let below = gap.1 i x in omega arith)
    (λ (x : c.in-Err.field-0 < i). let above = gap.2 i (omega arith) within in omega arith)
    o)
    (cases_order i c.in-Err.field-0)))
    ∙ ap (λ l. interface_at l c.args.self.now.interfaces c.args.mailbox) c.as_slice.ensures
