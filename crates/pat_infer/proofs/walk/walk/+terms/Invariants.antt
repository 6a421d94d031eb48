use Rattle.std.proofs.Common.{◌≡◌, ◌+◌, ◌*◌, length, drop}
use Rattle.pat_infer_spec.specs.Constraints.{Found}
use Rattle.pat_infer_spec.specs.Walk.{walk}
use Rattle.pat_core.specs.Views.{program_view}
use Rattle.pat_types.specs.Views.{result_view}
use Rattle.pat_infer_problems.specs.declared.problem.Problem.{Problem}
use Rattle.pat_infer_problems.specs.Walked.{IsWalked}
use Rattle.pat_infer.proofs.Parts.{Closing, StillToWalk}
use Rattle.pat_infer.proofs.walk.walk.+terms.Given as goal

abbrev pub decreases-walk : goal.decreases-walk
decreases-walk l = 8 * l.levels + 2

abbrev pub decreases-walk_inner : goal.decreases-walk_inner
decreases-walk_inner l = 8 * l.level + 1

abbrev pub decreases-close_lets : goal.decreases-close_lets
decreases-close_lets l = 8 * (length l.lets + l.level) + 1

abbrev pub decreases-walk_last : goal.decreases-walk_last
decreases-walk_last l = 8 * l.levels + 7

abbrev pub decreases-walk_core : goal.decreases-walk_core
decreases-walk_core l = 8 * l.levels + 6

abbrev pub decreases-walk_choice : goal.decreases-walk_choice
decreases-walk_choice l = 8 * l.levels + 5

abbrev pub decreases-walk_guard : goal.decreases-walk_guard
decreases-walk_guard l = 8 * l.levels + 5

abbrev pub decreases-walk_branches : goal.decreases-walk_branches
decreases-walk_branches l = 8 * l.levels + 4

abbrev pub decreases-close_let : goal.decreases-close_let
decreases-close_let l = 8 * l.levels + 3

-- the lets that are left, around what is found so far, find the whole
abbrev pub invariant-close_lets-loop-outer : goal.invariant-close_lets-loop-outer
invariant-close_lets-loop-outer l = record {
  count : length l.left + l.at ≡ length l.fn.lets + l.fn.level;
  climbs : (first : Problem) (r : Found) → IsWalked l.fn.signed.program.now first l.initial.problem l.initial.needs r → Closing l.fn.signed.program.now (result_view l.fn.asked) first l.fn.level l.fn.lets l.at l.left l.problem l.needs r;
}

-- what is found of the branches that are left is what is still to be found
abbrev pub invariant-walk_branches-loop-branch : goal.invariant-walk_branches-loop-branch
invariant-walk_branches-loop-branch l = StillToWalk l.fn.signed.program.now (walk l.fn.levels (program_view l.fn.signed.program.now)) (result_view l.fn.asked) l.initial.problem l.problem l.arms l.fn.branches (drop l.branch-index l.fn.branches)

abbrev pub decreases-close_lets-loop-outer : goal.decreases-close_lets-loop-outer
decreases-close_lets-loop-outer l = length l.left
