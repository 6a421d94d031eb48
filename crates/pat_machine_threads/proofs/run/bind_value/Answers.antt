use Rattle.std.proofs.Common.{◌≡◌, Some, rules}
use Rattle.pat_semantics_spec.specs.Values.{eval}
use Rattle.pat_semantics_spec.specs.Programs.{Let, Val, core_at, keep}
use Rattle.pat_semantics_spec.specs.Configs.{Running}
use Rattle.pat_semantics_spec.specs.Steps.{bind_name, frame_of}
use Rattle.pat_core.specs.Views.{expr_view}
use Rattle.pat_reduce.specs.threads.Views.{program_view}
use Rattle.pat_reduce.specs.threads.ThreadViews.{control_view, thread_view}
use Rattle.pat_reduce_values.specs.ValueViews.{env_view, value_view}
use Rattle.pat_machine_threads.proofs.Lets.{bound_steps}
use Rattle.pat_machine_threads.proofs.run.bind_value.Goals as goal

pub returns-in_ok-enter_body-in-Ok-clause-yes : goal.returns-in_ok-enter_body-in-Ok-clause-yes
returns-in_ok-enter_body-in-Ok-clause-yes c taken =
    let p = program_view c.args.code.now.program in
    let env = env_view c.as_slice.result.now in
    let e = expr_view c.in-Some-Value.e in
    let y = c.in-Some-Let.var in
    let b = c.in-Some-Let.body in
    let control : control_view c.args.state.now.control ≡ Running c.in-Node.node env = search rules in
    let outer : core_at p c.in-Node.node ≡ Some (Let y c.in-Some-Let.bound b) = search rules in
    let inner : core_at p c.in-Some-Let.bound ≡ Some (Val e) = search rules in
    let value : eval env e ≡ Some (value_view c.in-Ok.value) = search rules in
    let after : env_view c.enter_body.new.env ≡ keep p b (bind_name (frame_of p y b env).env y (value_view c.in-Ok.value)) = search rules in
    bound_steps p (thread_view c.args.state.now) c.in-Node.node c.in-Some-Let.bound b y e env (env_view c.enter_body.new.env) (value_view c.in-Ok.value) control outer inner value after
