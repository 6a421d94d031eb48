use Rattle.std.proofs.Common.{IfOk, subst}
use Rattle.pat_input.specs.Inputs.{IsRead}
use Rattle.pat_command_run.specs.declared.command.Detail.TheVariants.{Summary}
use Rattle.pat_command_run.specs.Allowed.{AllowedRun}
use Rattle.pat_command_run.proofs.load.command.answer_load.Goals as goal

pub answer_run-requires-clause-read : goal.answer_run-requires-clause-read
answer_run-requires-clause-read g c = (c.in_ok-text.text.items, subst (λ l. IsRead l c.in_ok-input.input) c.as_slice.ensures.value c.in_ok-input.ensures)

pub returns : goal.returns
returns g c =
    let read = subst (λ l. IsRead l c.in_ok-input.input) c.as_slice.ensures.value c.in_ok-input.ensures in
    subst (λ l. IfOk c.answer_run.result (λ a. AllowedRun Summary c.args.options l a.text.items a.status)) c.in_ok-text.ensures (c.answer_run.ensures c.in_ok-text.text.items read)
