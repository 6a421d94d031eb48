-- What `check` answers is a command's.
use Rattle.std.proofs.Common.{ℕ, List}
use Rattle.pat_front.specs.exit_answers.Answers.{IsCommandStatus}
use Rattle.pat_front.specs.declared.exit_answers.status.Status.{Status}
use Rattle.pat_front.specs.declared.exit_answers.status.Status.TheVariants.{Ok, Refused, Usage, ReadFault, WriteFault, NoMemory, Budget, Waiting, Full}
use Rattle.pat_typecheck.proofs.Statuses.{refused_small}
use Rattle.pat_command_check.specs.Allowed.{AllowedCheck}

pub check_status : (bytes text : List ℕ) (s : Status) → AllowedCheck bytes text s → IsCommandStatus bytes s
check_status bytes text Ok a = a.0.spelled.tree.small
check_status bytes text (Refused v) a = refused_small bytes text v a
check_status bytes text Usage a = absurd a
check_status bytes text ReadFault a = absurd a
check_status bytes text WriteFault a = absurd a
check_status bytes text NoMemory a = absurd a
check_status bytes text Budget a = absurd a
check_status bytes text Waiting a = absurd a
check_status bytes text Full a = absurd a
