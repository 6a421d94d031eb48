use Rattle.std.proofs.Common.{refl}
use Rattle.pat_core.specs.Views.{program_view}
use Rattle.pat_reduce.specs.Views.{act_view}
use Rattle.pat_machine_states.proofs.Opened.{takes}
use Rattle.pat_machine_states.proofs.Keeping.{refer_sends}
use Rattle.pat_machine_states.proofs.state.IndexedConfig.take_open.Goals as goal

pub returns-in-Ok-clause-ok : goal.returns-in-Ok-clause-ok
returns-in-Ok-clause-ok c =
    takes (program_view c.args.code.now.program) c.args.self.now.config c.step.new.self.config c.args.limit c.args.thread (act_view c.in-Some.act) c.requires.ordered c.in-Some.ensures c.in-Ok.ensures.step

pub step-requires-clause-place : goal.step-requires-clause-place
step-requires-clause-place c = λ sends. c.requires.place ((c.in-Some.ensures.allowed (act_view c.in-Some.act) refl).1 sends)

pub step-requires-clause-live : goal.step-requires-clause-live
step-requires-clause-live c = λ sends. refer_sends (program_view c.args.code.now.program) c.args.self.now.config c.args.thread c.requires.live
