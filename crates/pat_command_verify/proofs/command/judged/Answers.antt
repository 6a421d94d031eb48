use Rattle.std.proofs.Common.{subst}
use Rattle.std.specs.Prelude.{IfNone}
use Rattle.pat_core.specs.Views.{program_view}
use Rattle.pat_type_system_spec.specs.Typings.{IsTypable}
use Rattle.pat_derivation_spec.specs.Validity.{IsValid}
use Rattle.pat_derivations.specs.Views.{derivation_view}
use Rattle.pat_safety_laws.proofs.Safe.{typable_safe}
use Rattle.pat_command_verify.proofs.Answering.{accepted_judged}
use Rattle.pat_command_verify.proofs.command.judged.Goals as goal

pub returns-in-None : goal.returns-in-None
returns-in-None c =
    let p = program_view c.args.program.now in
    let d = derivation_view c.args.derivation.now in
    let valid : IsValid p d = subst (λ o. IfNone o (IsValid p d)) c.in-None.is c.in_ok-judge.ensures.valid in
    let typable : IsTypable p = subst (λ o. IfNone o (IsTypable p)) c.in-None.is c.in_ok-judge.ensures.typable in
    accepted_judged p d c.accepted_answer.result valid (typable_safe p c.requires typable) c.accepted_answer.ensures
