use Rattle.std.proofs.Common.{◌∙◌, sym, subst}
use Rattle.std.specs.Prelude.{IfOk, IfErr}
use Rattle.std.specs.declared.result.Result.TheVariants.{Ok}
use Rattle.std.proofs.lemmas.Result.{IfOk-weaker}
use Rattle.pat_session.specs.Processes.{AreArguments, MayLackMemory}
use Rattle.pat_session.proofs.Processes.{all_taken, may_lack}
use Rattle.pat_session.proofs.process.all_of.Goals as goal

pub returns-in-Ok-clause-ok : goal.returns-in-Ok-clause-ok
returns-in-Ok-clause-ok c =
    let all = IfOk-weaker c.collect.result _ (λ v. AreArguments (Ok c.in-Ok.arguments) v.items) (λ v r. r.2.0 ∙ all_taken c.in-Ok.arguments r.0 r.1) c.collect.ensures.ran in
    subst (λ a. IfOk c.collect.result (λ v. AreArguments a v.items)) (sym c.in-Ok.is) all

pub returns-in-Ok-clause-err : goal.returns-in-Ok-clause-err
returns-in-Ok-clause-err c = subst (λ a. IfErr c.collect.result (λ _. MayLackMemory a)) (sym c.in-Ok.is) (may_lack c.collect.result)
