use Rattle.pat_core.specs.Views.{program_view}
use Rattle.pat_solve.specs.States.{Stands}
use Rattle.pat_solve.proofs.solving.answer_usable.Given as goal

abbrev pub invariant-loop-interface : goal.invariant-loop-interface
invariant-loop-interface l = Stands (program_view l.program) l.interface l.state
