use Rattle.std.proofs.Common.{sym, subst}
use Rattle.pat_cover_certificates.specs.coefficients.Frames.{CameToNothing}
use Rattle.pat_cover_certificates.proofs.Standing.{room_came}
use Rattle.pat_cover_certificates.proofs.coefficients.failed.add_slots.Goals as goal

pub loop-failed-preserved : goal.loop-failed-preserved
loop-failed-preserved c n ps came =
    subst (CameToNothing n ps) (sym c.in_ok-push.ensures.ok) (room_came n ps c.loop-failed.failed (c.loop-failed.invariant n ps came))
