use Rattle.std.proofs.Common.{map, arith}
use Rattle.pat_core.specs.Views.{program_view}
use Rattle.pat_reduce.specs.Views.{entry_view}
use Rattle.pat_machine_laws.proofs.Tables.{allowances_without}
use Rattle.pat_machine_laws.proofs.Takings.{give_back_stands}
use Rattle.pat_machine.proofs.Lending.{part_lent}
use Rattle.pat_machine.proofs.parts.Parts.give_back.Goals as goal

pub overflow_sub-self : goal.overflow_sub-self
overflow_sub-self c = part_lent c.args.self.now.out.items c.args.self.now.lent c.args.job.thread c.args.job.allowance c.requires.lent (c.is_lent.ensures.0 c.if-is_lent.true)

pub returns-then-is_lent-clause-kept : goal.returns-then-is_lent-clause-kept
returns-then-is_lent-clause-kept c =
    let m = c.args.self.now in
    let is = c.is_lent.ensures.0 c.if-is_lent.true in
    let all = c.requires.lent in
    let without = allowances_without m.out.items c.args.job.thread c.args.job.allowance is in
    record {
      stands = give_back_stands (program_view m.code.program) m.budget m.limit m.state.config (map entry_view m.history.items) m.left m.out.items c.requires.stands c.args.job.thread c.args.job.allowance is;
      places = c.requires.places;
      counted = c.requires.counted;
      noted = c.requires.noted;
      lent = omega arith;
    }
