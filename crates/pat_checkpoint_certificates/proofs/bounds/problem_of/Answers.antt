use Rattle.std.proofs.Common.{subst}
use Rattle.pat_core.specs.Views.{program_view}
use Rattle.pat_infer.specs.Answers.{IsUntypable}
use Rattle.pat_checkpoint_certificates.proofs.bounds.problem_of.Goals as goal

pub unreachable-requires : goal.unreachable-requires
unreachable-requires c =
    (subst (IsUntypable (program_view c.args.program.now)) c.in-Err-Untypable.field-0-is c.in-Err-Untypable.ensures.only) c.requires.typable
