use Rattle.std.proofs.Common.{◌≡◌, map, drop}
use Rattle.pat_infer_spec.specs.Constraints.{AtNode, PayloadRule, each_unless}
use Rattle.pat_infer_spec.specs.Walk.{keeps_own}
use Rattle.pat_core.specs.Views.{program_view}
use Rattle.pat_infer_problems.specs.Results.{first_of}
use Rattle.pat_infer_terms.specs.branches.Arms.{arm_view}
use Rattle.pat_infer_terms.proofs.branches.guards.all_keep.Given as goal

-- the first broken rule is that of the branches that are left
abbrev pub invariant-loop-arm : goal.invariant-loop-arm
invariant-loop-arm l = first_of (each_unless (keeps_own (program_view l.fn.program) l.fn.interface) PayloadRule (λ a. AtNode l.fn.node) (map arm_view (drop l.arm-index l.arms))) ≡ first_of (each_unless (keeps_own (program_view l.fn.program) l.fn.interface) PayloadRule (λ a. AtNode l.fn.node) (map arm_view l.arms))
