use Rattle.std.proofs.Common.{sym, ◌∙◌}
use Rattle.pat_semantics_spec.specs.Runs.{can_step_thread}
use Rattle.pat_reduce.specs.threads.Views.{program_view}
use Rattle.pat_reduce.specs.Views.{config_view}
use Rattle.pat_reduce.proofs.LeastActs.{first_of_ready, found_here, ready_by}
use Rattle.pat_reduce.proofs.config.Config.ready_thread.Goals as goal

pub returns-then-is_some-clause-least : goal.returns-then-is_some-clause-least
returns-then-is_some-clause-least c = λ ordered u ready.
    let p = program_view c.args.code.now.program in
    let config = config_view c.args.self.now in
    let e = c.entry-item.result in
    let can = ready_by p config e.0 c.enabled_act.result c.enabled_act.ensures.enabled (sym c.is_some.ensures ∙ c.if-is_some.true) in
    first_of_ready p config (can_step_thread p config) e.0 u ordered
    (found_here p c.args.self.now c.as_slice-entry-items.result.now c.loop-entry.entry-index e c.loop-entry-test.true c.entry-item.is can c.loop-entry.invariant.first) ready ready
