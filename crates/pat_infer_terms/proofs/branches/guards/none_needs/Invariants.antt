use Rattle.std.proofs.Common.{◌≡◌, map, drop}
use Rattle.std.specs.Prelude.{is_none}
use Rattle.pat_type_schemes_spec.specs.NodeTypes.{need_of}
use Rattle.pat_infer_spec.specs.Constraints.{AtNode, OrderRule, each_unless}
use Rattle.pat_infer_problems.specs.Results.{first_of}
use Rattle.pat_infer_terms.specs.branches.Arms.{arm_view}
use Rattle.pat_infer_terms.proofs.branches.guards.none_needs.Given as goal

-- the first broken rule is that of the branches that are left
abbrev pub invariant-loop-arm : goal.invariant-loop-arm
invariant-loop-arm l = first_of (each_unless (λ a. is_none (need_of a.needs l.fn.variable)) OrderRule (λ a. AtNode l.fn.node) (map arm_view (drop l.arm-index l.arms))) ≡ first_of (each_unless (λ a. is_none (need_of a.needs l.fn.variable)) OrderRule (λ a. AtNode l.fn.node) (map arm_view l.arms))
