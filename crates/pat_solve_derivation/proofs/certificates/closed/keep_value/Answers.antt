use Rattle.pat_solve_derivation.specs.certificates.Making.{scope_in}
use Rattle.pat_solve_derivation.proofs.Kept.{one_kept}
use Rattle.pat_solve_derivation.proofs.certificates.closed.keep_value.Goals as goal

pub returns : goal.returns
returns c =
    one_kept (scope_in c.args.solved.now) c.args.closed.now c.replace.new.self c.args.number c.in_ok-form.form c.requires.closed c.replace.ensures.after c.in_ok-form.ensures
