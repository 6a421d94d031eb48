use Rattle.std.proofs.Common.{◌≡◌, ◌++◌, map, drop}
use Rattle.pat_infer_spec.specs.Branches.{outer_needs}
use Rattle.pat_types.specs.Views.{needs_view}
use Rattle.pat_infer_terms.specs.branches.Arms.{arm_view}
use Rattle.pat_infer_terms.proofs.branches.arms.all_outer.Given as goal

-- what is made, and what the branches that are left need
abbrev pub invariant-loop-arm : goal.invariant-loop-arm
invariant-loop-arm l = map needs_view l.all ++ map outer_needs (map arm_view (drop l.arm-index l.arms)) ≡ map outer_needs (map arm_view l.arms)
