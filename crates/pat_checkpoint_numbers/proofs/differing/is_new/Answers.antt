use Rattle.std.proofs.Common.{not, ap, sym, ◌∙◌, ◌∷◌, ◌&&◌}
use Rattle.pat_type_system_spec.specs.Typed.{mailboxes_of}
use Rattle.pat_reduce_values.specs.ValueViews.{value_view}
use Rattle.pat_checkpoint_numbers.specs.Marked.{is_marked, are_new}
use Rattle.pat_checkpoint_numbers.proofs.News.{new_with}
use Rattle.pat_checkpoint_numbers.proofs.differing.is_new.Goals as goal

pub returns-clause-one : goal.returns-clause-one
returns-clause-one c = λ rest.
    let m = is_marked c.args.marks.now in
    let n = is_marked c.mark.new.self in
    ap (λ v. are_new m (mailboxes_of (value_view v ∷ rest))) c.in-Mailbox.is
    ∙ new_with m n c.in-Mailbox.mailbox (mailboxes_of rest) c.mark.ensures.marked
    ∙ ap (λ t. not t && are_new n (mailboxes_of rest)) (sym c.is_marked-marked.ensures)
