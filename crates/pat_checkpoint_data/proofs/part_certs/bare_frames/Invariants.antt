use Rattle.std.proofs.Common.{◌≡◌, None, replicate}
use Rattle.pat_checkpoint_data.proofs.part_certs.bare_frames.Given as goal

abbrev pub invariant-loop : goal.invariant-loop
invariant-loop l = l.frames ≡ replicate l.counter None
