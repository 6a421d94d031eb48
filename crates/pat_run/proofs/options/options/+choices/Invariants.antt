use Rattle.std.proofs.Common.{length}
use Rattle.pat_run.proofs.options.options.+choices.Given as goal

abbrev pub decreases-choices : goal.decreases-choices
decreases-choices l = length l.words.now
