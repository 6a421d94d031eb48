use Rattle.pat_examples.proofs.CheckpointRows.{on_is, there_is, none_is}
use Rattle.std.proofs.Common.{refl}
use Rattle.pat_examples.proofs.checkpoints.turns_taken.Goals as goal

pub returns : goal.returns
returns c = record {
  on = on_is;
  there = there_is;
  none = none_is;
  done = refl;
}
