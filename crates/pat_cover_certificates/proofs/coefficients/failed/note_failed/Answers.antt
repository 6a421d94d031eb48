use Rattle.std.proofs.Common.{◌∙◌, ap, length, sym, subst}
use Rattle.std.proofs.lemmas.List.{length-set}
use Rattle.pat_cover_certificates.specs.coefficients.Frames.{CameToNothing}
use Rattle.pat_cover_certificates.proofs.Standing.{one_came}
use Rattle.pat_cover_certificates.proofs.coefficients.failed.note_failed.Goals as goal

pub returns-clause-came : goal.returns-clause-came
returns-clause-came c n ps came none =
    subst (CameToNothing n ps) (sym c.replace.ensures.after)
    (one_came n ps c.args.failed.now c.slot_of-slot.result (record { place = c.args.place; left = c.args.left.now }) came none)

pub returns-clause-room : goal.returns-clause-room
returns-clause-room c = ap length c.replace.ensures.after ∙ length-set _ _ _
