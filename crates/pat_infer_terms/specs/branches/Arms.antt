-- What the definitions see of branches that have been walked.
use Rattle.std.specs.Prelude.{option_map}
use Rattle.pat_infer_spec.specs.Branches.{Arm}
use Rattle.pat_core.specs.Views.{clause_view}
use Rattle.pat_types.specs.Views.{needs_view}
use Rattle.pat_infer_terms.specs.declared.branches.arms.WalkedArm.{WalkedArm}

abbrev pub arm_view : WalkedArm → Arm
arm_view a = record { clause = option_map (λ r. clause_view r.now) a.clause; needs = needs_view a.needs }
