use Rattle.std.proofs.Common.{drop}
use Rattle.pat_core.specs.Views.{program_view}
use Rattle.pat_infer.proofs.Functions.{StillToWalk}
use Rattle.pat_infer.proofs.making.walk_all.Given as goal

-- what is found, and what the functions that are left give, are the whole
abbrev pub invariant-loop-number : goal.invariant-loop-number
invariant-loop-number l = StillToWalk l.fn.signed.program.now l.initial.problem l.problem l.number (drop l.number (program_view l.fn.signed.program.now).functions)
