use Rattle.pat_core.specs.Views.{program_view}
use Rattle.pat_reduce.specs.Views.{config_view}
use Rattle.pat_checkpoint_run.proofs.Courses.{Underway}
use Rattle.pat_checkpoint_run.proofs.course.run_turns.Given as goal

abbrev pub invariant-loop-turn : goal.invariant-loop-turn
invariant-loop-turn l = Underway (program_view l.code.program) (config_view l.fn.config) l.steps l.course

abbrev pub decreases-loop-turn : goal.decreases-loop-turn
decreases-loop-turn l = l.course.left
