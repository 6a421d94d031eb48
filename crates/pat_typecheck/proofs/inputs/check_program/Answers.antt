use Rattle.std.proofs.Common.{refl}
use Rattle.pat_core.specs.Views.{program_view}
use Rattle.pat_typecheck.proofs.Checking.{refused_program}
use Rattle.pat_typecheck.proofs.inputs.check_program.Goals as goal

pub returns-in-Ok : goal.returns-in-Ok
returns-in-Ok c = (
  refl,
  c.in-Ok.ensures.made,
  c.in-Ok.ensures.typable,
  c.safety_laws.ensures.safe (program_view c.args.program) c.requires.well_formed c.in-Ok.ensures.typable,
)

pub returns-in-Err : goal.returns-in-Err
returns-in-Err c = refused_program c.args.program c.in-Err.error c.refused_program.result c.in-Err.ensures.refused c.refused_program.ensures
