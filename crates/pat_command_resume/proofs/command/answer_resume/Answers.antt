use Rattle.std.proofs.Common.{rules}
use Rattle.pat_core.specs.Views.{program_view}
use Rattle.pat_derivations.specs.Views.{derivation_view}
use Rattle.pat_checkpoint_data.specs.Views.{checkpoint_view}
use Rattle.pat_checkpoint_input.specs.CheckedTexts.{IsCheckpointRefusal}
use Rattle.pat_command_resume.proofs.Answering.{resumed, refused}
use Rattle.pat_command_resume.proofs.command.answer_resume.Goals as goal

pub go_on-requires-clause-checked : goal.go_on-requires-clause-checked
go_on-requires-clause-checked c = let parts = c.in-Ok.ensures.gives in (derivation_view c.in-Ok.checked.derivation, parts.checked.checked)

pub go_on-requires-clause-room : goal.go_on-requires-clause-room
go_on-requires-clause-room c = let parts = c.in-Ok.ensures.gives in parts.checked.room

pub returns-in-Ok : goal.returns-in-Ok
returns-in-Ok c =
    let parts = c.in-Ok.ensures.gives in
    let d = derivation_view c.in-Ok.checked.derivation in
    resumed c.args.steps c.args.bytes.now (program_view c.in-Ok.checked.program) d (checkpoint_view c.in-Ok.checked.checkpoint) c.go_on.result c.checked_laws.ensures.safe c.in-Ok.ensures.well_formed parts
    (c.go_on.ensures d parts.checked.checked)

pub returns-in-Err-Refused : goal.returns-in-Err-Refused
returns-in-Err-Refused c =
    let why : IsCheckpointRefusal c.args.bytes.now c.in-Err-Refused.verdict = search rules in
    refused c.args.steps c.args.bytes.now c.in-Err-Refused.verdict c.verdict_answer.result why c.verdict_answer.ensures
