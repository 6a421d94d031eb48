use Rattle.std.proofs.Common.{◌<◌, arith}
use Rattle.pat_reduce_values.proofs.VariableSets.{fits_between}
use Rattle.pat_reduce_values.proofs.programs.variables.is_behind.Goals as goal

pub returns-else-place-eq0 : goal.returns-else-place-eq0
returns-else-place-eq0 c =
    let other = c.if-place-eq0.false in
    let past : 0 < c.args.place = omega arith in
    fits_between c.args.listed.now c.args.variable c.args.place c.requires.order c.requires.within c.requires.less past
