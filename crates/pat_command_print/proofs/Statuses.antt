-- What `print` answers is a command's.
use Rattle.std.proofs.Common.{ℕ, List}
use Rattle.pat_front.specs.exit_answers.Answers.{IsCommandStatus}
use Rattle.pat_front.specs.declared.exit_answers.status.Status.{Status}
use Rattle.pat_front.specs.declared.exit_answers.status.Status.TheVariants.{Ok, Refused, Usage, ReadFault, WriteFault, NoMemory, Budget, Waiting, Full}
use Rattle.pat_front.proofs.Refusals.{small}
use Rattle.pat_command_print.specs.Allowed.{AllowedPrint}

pub print_status : (bytes text : List ℕ) (s : Status) → AllowedPrint bytes text s → IsCommandStatus bytes s
print_status bytes text Ok a = a.2.tree.small
print_status bytes text (Refused v) a = small bytes v a.0
print_status bytes text Usage a = absurd a
print_status bytes text ReadFault a = absurd a
print_status bytes text WriteFault a = absurd a
print_status bytes text NoMemory a = absurd a
print_status bytes text Budget a = absurd a
print_status bytes text Waiting a = absurd a
print_status bytes text Full a = absurd a
