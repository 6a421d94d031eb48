-- What `resume` answers is a command's.
use Rattle.std.proofs.Common.{ℕ, List}
use Rattle.pat_input.specs.Inputs.{whole_limit}
use Rattle.pat_front.specs.exit_answers.Answers.{IsStatusWithin}
use Rattle.pat_front.specs.declared.exit_answers.status.Status.{Status}
use Rattle.pat_front.specs.declared.exit_answers.status.Status.TheVariants.{Ok, Refused, Usage, ReadFault, WriteFault, NoMemory, Budget, Waiting, Full}
use Rattle.pat_checkpoint_input.proofs.Small.{checkpoint_small}
use Rattle.pat_command_resume.specs.Allowed.{AllowedResume}

pub resume_status : (steps : ℕ) (bytes out : List ℕ) (s : Status) → AllowedResume steps bytes out s → IsStatusWithin whole_limit bytes s
resume_status steps bytes out Ok a = a.parts.has.has.small
resume_status steps bytes out Budget a = a.parts.has.has.small
resume_status steps bytes out Waiting a = a.parts.has.has.small
resume_status steps bytes out (Refused v) a = checkpoint_small bytes v a.0
resume_status steps bytes out Full a = absurd a
resume_status steps bytes out Usage a = absurd a
resume_status steps bytes out ReadFault a = absurd a
resume_status steps bytes out WriteFault a = absurd a
resume_status steps bytes out NoMemory a = absurd a
