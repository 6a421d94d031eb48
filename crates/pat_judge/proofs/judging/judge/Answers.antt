use Rattle.pat_core.specs.Views.{program_view}
use Rattle.pat_derivations.specs.Views.{derivation_view}
use Rattle.pat_judge.proofs.FirstBad.{where_none}
use Rattle.pat_judge.proofs.judging.judge.Goals as goal

pub returns-clause-typable : goal.returns-clause-typable
returns-clause-typable c =
    where_none (program_view c.args.program.now) (derivation_view c.args.derivation.now) c.judged.result
    (λ e. c.validity_laws.ensures.typable (program_view c.args.program.now) (derivation_view c.args.derivation.now) c.requires ((c.first_bad_laws.ensures.none (program_view c.args.program.now) (derivation_view c.args.derivation.now)).0 e))
    c.judged.ensures
