use Rattle.std.proofs.Common.{subst}
use Rattle.pat_core.specs.Views.{program_view}
use Rattle.pat_solve_closed_forms.specs.Values.{IsInferred, ValuesAre}
use Rattle.pat_solve.proofs.Giving.{if_patterns}
use Rattle.pat_solve.proofs.interface.forms.interface_form.Goals as goal

pub returns-in-Covered : goal.returns-in-Covered
returns-in-Covered c =
    let inferred : IsInferred c.args.program.now c.args.problem.now = record { well = c.requires.well; clean = c.requires.enough.clean; problem = c.requires.problem } in
    if_patterns (program_view c.args.program.now) c.args.interface c.pattern_form.result c.in-Covered.values
    (subst (ValuesAre (program_view c.args.program.now) c.args.interface) c.in-Covered.is (c.in_ok-values.ensures c.args.program.now inferred)) c.pattern_form.ensures
