-- What `derive` answers is a command's.
use Rattle.std.proofs.Common.{ℕ, List}
use Rattle.pat_front.specs.exit_answers.Answers.{IsCommandStatus}
use Rattle.pat_front.specs.declared.exit_answers.status.Status.{Status}
use Rattle.pat_front.specs.declared.exit_answers.status.Status.TheVariants.{Ok, Refused, Usage, ReadFault, WriteFault, NoMemory, Budget, Waiting, Full}
use Rattle.pat_typecheck.proofs.Statuses.{refused_small}
use Rattle.pat_command_derive.specs.Allowed.{AllowedDerive}

pub derive_status : (bytes text : List ℕ) (s : Status) → AllowedDerive bytes text s → IsCommandStatus bytes s
derive_status bytes text Ok a = a.0.spelled.tree.small
derive_status bytes text (Refused v) a = refused_small bytes text v a
derive_status bytes text Usage a = absurd a
derive_status bytes text ReadFault a = absurd a
derive_status bytes text WriteFault a = absurd a
derive_status bytes text NoMemory a = absurd a
derive_status bytes text Budget a = absurd a
derive_status bytes text Waiting a = absurd a
derive_status bytes text Full a = absurd a
