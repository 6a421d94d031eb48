use Rattle.std.proofs.Common.{◌<◌, length, sym, subst}
use Rattle.pat_inclusion_spec.specs.Counts.{most_tags}
use Rattle.pat_inclusion_spec.specs.ClosedForms.{closed_form}
use Rattle.pat_solve_closed_forms.specs.Forms.{values_by, IsKept}
use Rattle.pat_solve_closed_forms.proofs.Kept.{kept_more, place_within}
use Rattle.pat_solve_closed_forms.proofs.forms.keep_at.Goals as goal

pub is_unmade-requires : goal.is_unmade-requires
is_unmade-requires c =
    subst (λ forms. c.args.place < length forms) (sym c.as_slice.ensures)
    (place_within c.args.by.now c.args.forms.now c.args.place c.requires.forms c.requires.place)

pub replace-requires : goal.replace-requires
replace-requires c =
    place_within c.args.by.now c.args.forms.now c.args.place c.requires.forms c.requires.place

pub returns : goal.returns
returns c =
    kept_more c.args.by.now c.args.forms.now c.replace.new.self c.args.place c.in_ok-form.form c.requires.forms c.replace.ensures.after
    (subst (λ k. IsKept (closed_form most_tags (values_by c.args.by.now k)) c.in_ok-form.form) (sym c.requires.variable) c.in_ok-form.ensures)
