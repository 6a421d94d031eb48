-- Tasks of the code as the definitions see them.
use Rattle.std.specs.Prelude.{List, map}
use Rattle.pat_patterns.specs.Views.{pattern_view}
use Rattle.pat_witnesses.specs.Views.{bound_view}
use Rattle.pat_refutations.specs.declared.walk.Task.{Task as CodeTask}
use Rattle.pat_refutations.specs.declared.walk.Task.TheVariants.{Walk as CodeWalk, Take as CodeTake, Forget as CodeForget, See as CodeSee}
use Rattle.pat_refutations.specs.Tasks.{Task, WalkTask, TakeTask, ForgetTask, SeeTask}

abbrev pub task_view : CodeTask → Task
task_view (CodeWalk b e) = WalkTask (bound_view b.now) (pattern_view e.now)
task_view (CodeTake m) = TakeTask m
task_view CodeForget = ForgetTask
task_view CodeSee = SeeTask

-- the tasks, the next one first
abbrev pub tasks_view : List CodeTask → List Task
tasks_view ts = map task_view ts
