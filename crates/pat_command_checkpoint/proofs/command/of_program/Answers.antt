use Rattle.std.proofs.Common.{sym, subst}
use Rattle.std.specs.Prelude.{IfOk}
use Rattle.pat_core.specs.declared.program.Program.{Program}
use Rattle.pat_core.specs.Views.{program_view}
use Rattle.pat_derivation_spec.specs.Validity.{IsValid}
use Rattle.pat_derivations.specs.Views.{derivation_view}
use Rattle.pat_command_checkpoint.specs.Allowed.{AnswersProgram}
use Rattle.pat_command_checkpoint.proofs.command.of_program.Goals as goal

pub executable-requires : goal.executable-requires
executable-requires c = let r = c.requires.resolved in let resolved = r.1 in resolved.well_formed

pub run_program-requires-clause-typed : goal.run_program-requires-clause-typed
run_program-requires-clause-typed c =
    let d = derivation_view c.args.derivation.now in
    (d, subst (λ (k : Program). IsValid (program_view k) d) (sym c.in_ok-code.ensures) c.requires.valid)

pub answer_at-requires-clause-reached : goal.answer_at-requires-clause-reached
answer_at-requires-clause-reached c =
    let d = derivation_view c.args.derivation.now in
    (c.args.steps, c.in_ok-resumed.ensures d (subst (λ (k : Program). IsValid (program_view k) d) (sym c.in_ok-code.ensures) c.requires.valid))

pub returns : goal.returns
returns c =
    let d = derivation_view c.args.derivation.now in
    let reached = c.in_ok-resumed.ensures d (subst (λ (k : Program). IsValid (program_view k) d) (sym c.in_ok-code.ensures) c.requires.valid) in
    subst (λ (k : Program). IfOk c.answer_at.result (λ a. AnswersProgram (program_view k) d c.args.steps a.text.items a.status)) c.in_ok-code.ensures
    (c.answer_at.ensures c.args.steps reached)
