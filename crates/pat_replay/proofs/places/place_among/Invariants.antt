use Rattle.std.proofs.Common.{◌-◌}
use Rattle.pat_replay.proofs.Halves.{LiesWithin}
use Rattle.pat_replay.proofs.places.place_among.Given as goal

abbrev pub invariant-loop-low : goal.invariant-loop-low
invariant-loop-low l = LiesWithin l.threads l.thread l.low l.high

abbrev pub decreases-loop-low : goal.decreases-loop-low
decreases-loop-low l = l.high - l.low
