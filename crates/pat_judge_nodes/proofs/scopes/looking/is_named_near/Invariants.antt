use Rattle.std.proofs.Common.{◌-◌, length}
use Rattle.pat_judge_nodes.proofs.scopes.looking.is_named_near.Given as goal

abbrev pub decreases-loop-place : goal.decreases-loop-place
decreases-loop-place l = length l.env - l.place
