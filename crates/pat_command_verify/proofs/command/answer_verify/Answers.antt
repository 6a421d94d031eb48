use Rattle.std.proofs.Common.{drop, rules, subst}
use Rattle.std.specs.Prelude.{IfOk}
use Rattle.std.proofs.lemmas.List.{take_rest}
use Rattle.pat_core.specs.Views.{program_view}
use Rattle.pat_derivation_text_spec.specs.DerivationText.{marker}
use Rattle.pat_input_split.specs.program_with_text.MarkedPrograms.{IsMarkedRefusal}
use Rattle.pat_command_verify.specs.Allowed.{AnswersText}
use Rattle.pat_command_verify.proofs.Answering.{answered, refused}
use Rattle.pat_command_verify.proofs.command.answer_verify.Goals as goal

pub returns-in-Ok : goal.returns-in-Ok
returns-in-Ok c =
    let p = program_view c.in-Ok.program in
    let own = subst (λ l. IfOk c.verify_program.result (λ a. AnswersText p c.in-Ok.at l a.text.items a.status)) (take_rest c.args.bytes.now c.in-Ok.at) c.verify_program.ensures in
    answered c.args.bytes.now c.in-Ok.at (drop c.in-Ok.at c.args.bytes.now) p c.verify_program.result c.in-Ok.ensures.program c.in-Ok.ensures.within own

pub returns-in-Err-Refused : goal.returns-in-Err-Refused
returns-in-Err-Refused c =
    let why : IsMarkedRefusal marker c.args.bytes.now c.in-Err-Refused.verdict = search rules in
    refused c.args.bytes.now c.in-Err-Refused.verdict c.verdict_answer.result why c.verdict_answer.ensures
