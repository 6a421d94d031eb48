-- The exit status of each answer.
use Rattle.std.specs.Prelude.{ℕ}
use Rattle.pat_front.specs.declared.exit_answers.status.Status.{Status}
use Rattle.pat_front.specs.declared.exit_answers.status.Status.TheVariants.{Ok, Refused, Usage, ReadFault, WriteFault, NoMemory, Budget, Waiting, Full}

abbrev pub status_code : Status → ℕ
status_code Ok = 0
status_code (Refused verdict) = 1
status_code Usage = 2
status_code ReadFault = 3
status_code WriteFault = 4
status_code NoMemory = 5
status_code Budget = 6
status_code Waiting = 7
status_code Full = 8
