use Rattle.pat_solve_derivation.proofs.Kept.{none_more, none_yet}
use Rattle.pat_solve_derivation.proofs.certificates.closed.unmade_forms.Goals as goal

pub loop-init : goal.loop-init
loop-init c s =
    none_more s c.new-closed.result c.push.new.self (none_yet s c.new-closed.result c.new-closed.ensures) c.in_ok-push.ensures.ok

pub loop-preserved : goal.loop-preserved
loop-preserved c s =
    none_more s c.loop.closed c.push-in-loop.new.self (c.loop.invariant s) c.in_ok-push-2.ensures.ok
