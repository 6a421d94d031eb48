use Rattle.std.proofs.Common.{◌≡◌, length}
use Rattle.pat_infer_environments.specs.variables.Names.{put_on}
use Rattle.pat_infer_environments.proofs.variables.names.put_back.Given as goal

abbrev pub decreases-loop-name : goal.decreases-loop-name
decreases-loop-name l = length l.left

-- those that are left, put on what is there, are the whole
abbrev pub invariant-loop-name : goal.invariant-loop-name
invariant-loop-name l = put_on l.left l.names ≡ put_on l.initial.left l.initial.names
