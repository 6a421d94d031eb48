use Rattle.std.proofs.Common.{ap, sym, ◌∙◌, subst}
use Rattle.pat_reduce.specs.threads.Views.{program_view}
use Rattle.pat_reduce.specs.Views.{act_view, config_view}
use Rattle.pat_reduce.specs.threads.ThreadViews.{thread_view}
use Rattle.pat_reduce.specs.Acts.{EnabledAct, IsFirst, IsLeast}
use Rattle.pat_reduce.proofs.Taken.{there}
use Rattle.pat_reduce.proofs.Candidates.{act_found, first_found}
use Rattle.pat_reduce.proofs.LeastActs.{least_of}
use Rattle.pat_reduce.proofs.config.Config.act_at_place.Goals as goal

pub returns-clause-enabled : goal.returns-clause-enabled
returns-clause-enabled c =
    let p = program_view c.args.code.now.program in
    let config = config_view c.args.self.now in
    let s = c.state_at-state.result.now in
    let is = there p c.args.self.now c.as_slice.result.now c.args.thread c.args.place s c.as_slice.ensures c.requires c.state_at-state.ensures in
    subst (EnabledAct p config c.args.thread) (sym c.act_of.ensures) (act_found p config c.args.thread (thread_view s) is)

pub returns-clause-first : goal.returns-clause-first
returns-clause-first c =
    let p = program_view c.args.code.now.program in
    let config = config_view c.args.self.now in
    let s = c.state_at-state.result.now in
    let is = there p c.args.self.now c.as_slice.result.now c.args.thread c.args.place s c.as_slice.ensures c.requires c.state_at-state.ensures in
    subst (IsFirst p config c.args.thread) (sym c.act_of.ensures) (first_found p config c.args.thread (thread_view s) is)

pub returns-clause-least : goal.returns-clause-least
returns-clause-least c = λ ordered.
    let p = program_view c.args.code.now.program in
    let config = config_view c.args.self.now in
    let s = c.state_at-state.result.now in
    let is = there p c.args.self.now c.as_slice.result.now c.args.thread c.args.place s c.as_slice.ensures c.requires c.state_at-state.ensures in
    subst (IsLeast p config c.args.thread) (sym c.act_of.ensures) (least_of p config c.args.thread _ ordered (first_found p config c.args.thread (thread_view s) is))
