use Rattle.std.proofs.Common.{sym}
use Rattle.pat_reduce_values.proofs.VariableSets.{stands_among, fits_absent}
use Rattle.pat_reduce_values.proofs.programs.variables.AtHand.look_up.Goals as goal

pub returns-in-Ok : goal.returns-in-Ok
returns-in-Ok c = sym (stands_among c.args.self.now.listed.now c.args.variable c.in-Ok.own c.in-Ok.ensures.found)

pub returns-in-Err : goal.returns-in-Err
returns-in-Err c = sym (fits_absent c.args.self.now.listed.now c.args.variable c.in-Err.next c.in-Err.ensures.absent)

pub returns-in-Some-2 : goal.returns-in-Some-2
returns-in-Some-2 c = sym (fits_absent c.args.self.now.listed.now c.args.variable c.args.place (c.is_behind.ensures c.if-is_behind.true))
