use Rattle.std.proofs.Common.{◌≡◌, ◌++◌, map, drop}
use Rattle.pat_infer_spec.specs.Walk.{guard_binders}
use Rattle.pat_core.specs.Views.{program_view}
use Rattle.pat_patterns.specs.Views.{pattern_view}
use Rattle.pat_infer_terms.specs.Views.{binder_view}
use Rattle.pat_infer_terms.specs.branches.Arms.{arm_view}
use Rattle.pat_infer_terms.proofs.branches.guards.binders_of.Given as goal

-- the names of the branches so far, and of those that are left
abbrev pub invariant-loop-arm : goal.invariant-loop-arm
invariant-loop-arm l = map binder_view l.binders ++ guard_binders (program_view l.fn.program) l.fn.guarded.interface (pattern_view l.fn.guarded.pattern.now) (map arm_view (drop l.arm-index l.arms)) ≡ guard_binders (program_view l.fn.program) l.fn.guarded.interface (pattern_view l.fn.guarded.pattern.now) (map arm_view l.arms)
