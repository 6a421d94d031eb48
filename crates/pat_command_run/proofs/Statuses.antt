-- What a run answers is a command's.
use Rattle.std.proofs.Common.{ℕ, List}
use Rattle.pat_typecheck.proofs.Statuses.{refused_small}
use Rattle.pat_front.specs.exit_answers.Answers.{IsCommandStatus}
use Rattle.pat_front.specs.declared.exit_answers.status.Status.{Status}
use Rattle.pat_front.specs.declared.exit_answers.status.Status.TheVariants.{Ok, Refused, Usage, ReadFault, WriteFault, NoMemory, Budget, Waiting, Full}
use Rattle.pat_run.specs.declared.options.options.RunOptions.{RunOptions}
use Rattle.pat_command_run.specs.declared.command.Detail.{Detail}
use Rattle.pat_command_run.specs.Allowed.{AllowedRun}

pub run_status : (d : Detail) (options : RunOptions) (bytes text : List ℕ) (s : Status) → AllowedRun d options bytes text s → IsCommandStatus bytes s
run_status d options bytes text Ok a = a.0.spelled.tree.small
run_status d options bytes text Budget a = a.0.spelled.tree.small
run_status d options bytes text Waiting a = a.0.spelled.tree.small
run_status d options bytes text Full a = a.0.spelled.tree.small
run_status d options bytes text (Refused v) a = refused_small bytes text v a
run_status d options bytes text Usage a = absurd a
run_status d options bytes text ReadFault a = absurd a
run_status d options bytes text WriteFault a = absurd a
run_status d options bytes text NoMemory a = absurd a
