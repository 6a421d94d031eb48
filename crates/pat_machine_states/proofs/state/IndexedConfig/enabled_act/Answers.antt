use Rattle.std.proofs.Common.{sym, subst}
use Rattle.pat_core.specs.Views.{program_view}
use Rattle.pat_reduce.specs.threads.ThreadViews.{thread_view}
use Rattle.pat_reduce.specs.Acts.{EnabledAct, IsLeast}
use Rattle.pat_reduce.proofs.Candidates.{act_found, first_found}
use Rattle.pat_reduce.proofs.LeastActs.{least_of}
use Rattle.pat_machine_states.proofs.Opened.{absent}
use Rattle.pat_machine_states.proofs.state.IndexedConfig.enabled_act.Goals as goal

pub returns-in-Some-clause-enabled : goal.returns-in-Some-clause-enabled
returns-in-Some-clause-enabled c =
    let p = program_view c.args.code.now.program in
    let s = thread_view c.in-Some.state.now in
    subst (EnabledAct p c.args.self.now.config c.args.thread) (sym (c.act_of.ensures c.args.thread (c.requires s (sym c.in-Some.ensures)))) (act_found p c.args.self.now.config c.args.thread (thread_view c.in-Some.state.now) (sym c.in-Some.ensures))

pub returns-in-Some-clause-least : goal.returns-in-Some-clause-least
returns-in-Some-clause-least c ordered =
    let p = program_view c.args.code.now.program in
    let s = thread_view c.in-Some.state.now in
    subst (IsLeast p c.args.self.now.config c.args.thread) (sym (c.act_of.ensures c.args.thread (c.requires s (sym c.in-Some.ensures))))
    (least_of p c.args.self.now.config c.args.thread _ ordered (first_found p c.args.self.now.config c.args.thread (thread_view c.in-Some.state.now) (sym c.in-Some.ensures)))

pub returns-in-None-clause-enabled : goal.returns-in-None-clause-enabled
returns-in-None-clause-enabled c = absent (program_view c.args.code.now.program) c.args.self.now.config c.args.thread (sym c.in-None.ensures)
