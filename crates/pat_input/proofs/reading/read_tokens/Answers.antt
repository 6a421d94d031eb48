use Rattle.pat_input.proofs.Taken.{at_end}
use Rattle.pat_input.proofs.reading.read_tokens.Goals as goal

pub returns-then-count-eq0-clause-ok : goal.returns-then-count-eq0-clause-ok
returns-then-count-eq0-clause-ok g c =
    at_end _ _ _ _ _ _ _ _ c.if-count-eq0.true c.loop-total-test.true (c.in_ok-count.ensures.end c.if-count-eq0.true) c.loop-total.invariant.read c.in_ok-count.ensures.count c.finished.ensures.read
