use Rattle.std.proofs.Common.{◌<◌, ◌+◌, length}
use Rattle.pat_core.specs.Views.{program_view}
use Rattle.pat_checkpoint_text.specs.Gathered.{IsReadTo}
use Rattle.pat_checkpoint_text.proofs.reading.read_lines.Given as goal

abbrev pub invariant-loop-rest : goal.invariant-loop-rest
invariant-loop-rest l = record {
  read : IsReadTo (program_view l.program) l.text l.x l.rest;
  within : length l.rest < length l.text + 1;
}

abbrev pub decreases-loop-rest : goal.decreases-loop-rest
decreases-loop-rest l = length l.rest
