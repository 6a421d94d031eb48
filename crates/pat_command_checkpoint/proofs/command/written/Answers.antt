use Rattle.std.proofs.Common.{subst}
use Rattle.pat_core.specs.Views.{program_view}
use Rattle.pat_derivations.specs.Views.{derivation_view}
use Rattle.pat_reduce.specs.Views.{config_view}
use Rattle.pat_checkpoint.specs.Writing.{IsRefusal}
use Rattle.pat_command_checkpoint.proofs.Answering.{written_at, unshown_at}
use Rattle.pat_command_checkpoint.proofs.command.written.Goals as goal

pub returns-in-Ok : goal.returns-in-Ok
returns-in-Ok c =
    written_at (program_view c.args.program.now) (derivation_view c.args.derivation.now) (config_view c.args.config) c.args.interfaces _ _ c.joined.result c.as_slice.ensures.value c.in-Ok.ensures.written c.joined.ensures.status c.joined.ensures.text

pub returns-in-Err-Unshown : goal.returns-in-Err-Unshown
returns-in-Err-Unshown c =
    let p = program_view c.args.program.now in
    let d = derivation_view c.args.derivation.now in
    unshown_at p d (config_view c.args.config) c.args.interfaces c.in-Err-Unshown.line c.verdict_answer.result
    (subst (IsRefusal p d (config_view c.args.config) c.args.interfaces) c.in-Err-Unshown.field-0-is c.in-Err-Unshown.ensures.unshown) c.verdict_answer.ensures
