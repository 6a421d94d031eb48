use Rattle.std.proofs.Common.{◌≡◌}
use Rattle.test_workers.proofs.turns.write_all.Given as goal

-- the pass has seen more
abbrev pub invariant-loop-round : goal.invariant-loop-round
invariant-loop-round g l = l.pass ≡ record l.initial.pass { seen = l.pass.seen }
