use Rattle.std.proofs.Common.{refl, option_map}
use Rattle.pat_core.specs.Views.{program_view}
use Rattle.pat_reduce.specs.Views.{act_view}
use Rattle.pat_checkpoint_run.specs.declared.course.Course.{Course}
use Rattle.pat_checkpoint_run.proofs.Turns.{takes_spent, takes_shared}
use Rattle.pat_checkpoint_run.proofs.course.Course.take.Goals as goal

pub returns-then-local-allowance : goal.returns-then-local-allowance
returns-then-local-allowance c =
    let middle : Course = record c.args.self.now { config = c.take_locals.new.config } in
    takes_spent (program_view c.args.code.now.program) c.turn_laws.ensures.locals c.made_laws.ensures.joins c.args.self.now middle c.note.new.self c.args.turn c.in_ok-local.local c.min-allowance.result c.take_locals.new.config c.min-allowance.ensures c.in_ok-local.ensures refl refl
    c.note.result c.if-local-allowance.true refl refl c.note.ensures

pub returns : goal.returns
returns c =
    let middle : Course = record c.args.self.now { config = c.share.new.config; made = c.share.new.made } in
    takes_shared (program_view c.args.code.now.program) c.turn_laws.ensures.locals c.made_laws.ensures.joins c.args.self.now middle c.note-2.new.self c.args.turn c.in_ok-local.local c.min-allowance.result c.take_locals.new.config c.min-allowance.ensures c.in_ok-local.ensures refl refl
    c.note-2.result (option_map act_view c.in_ok-shared.shared) c.if-local-allowance.false c.in_ok-shared.ensures c.note-2.ensures
