use Rattle.std.proofs.Common.{subst}
use Rattle.pat_semantics_spec.specs.Steps.{step}
use Rattle.pat_core.specs.Views.{program_view}
use Rattle.pat_reduce_values.specs.Results.{StepGives}
use Rattle.pat_reduce.specs.Views.{act_view, step_view}
use Rattle.pat_machine_states.specs.Boxes.{state_view}
use Rattle.pat_machine_states.proofs.Keeping.{beside}
use Rattle.pat_machine_states.proofs.Seen.{config_of}
use Rattle.pat_machine_states.proofs.state.IndexedConfig.step_beside.Goals as goal

pub step-requires-clause-none : goal.step-requires-clause-none
step-requires-clause-none c = c.self.invariant.messages

pub invariant_of-self : goal.invariant_of-self
invariant_of-self c =
    let i = c.self.inside in
    (beside (program_view c.args.code.now.program) i.placed i.latest i.mailboxes.mailboxes c.self.invariant c.args.step.now.thread (act_view c.args.step.now.act) c.requires.beside c.step.new.self c.step.result c.step.ensures).1

pub returns-clause-step : goal.returns-clause-step
returns-clause-step c =
    let i = c.self.inside in
    let p = program_view c.args.code.now.program in
    subst (λ d. StepGives (λ x. x) (step p d (step_view c.args.step.now)) d (state_view c.step.new.self i.mailboxes.mailboxes) c.step.result) (config_of c.self.view_is)
    (beside p i.placed i.latest i.mailboxes.mailboxes c.self.invariant c.args.step.now.thread (act_view c.args.step.now.act) c.requires.beside c.step.new.self c.step.result c.step.ensures).0
