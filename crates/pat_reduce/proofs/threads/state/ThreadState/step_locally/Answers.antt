use Rattle.std.proofs.Common.{◌≡◌, rules, refl, map}
use Rattle.std.specs.Prelude.{option_map}
use Rattle.pat_semantics_spec.specs.Values.{eval, eval_all}
use Rattle.pat_semantics_spec.specs.Programs.{Val, Call, function_at}
use Rattle.pat_semantics_spec.specs.Steps.{At, numbered, redex}
use Rattle.pat_core.specs.Views.{expr_view, program_view}
use Rattle.pat_reduce_values.specs.ValueViews.{value_view, env_view}
use Rattle.pat_reduce.specs.threads.ThreadViews.{control_view, thread_view}
use Rattle.pat_reduce.specs.threads.ThreadActs.{entered}
use Rattle.pat_reduce.proofs.Refusals.{refused, value_refused, call_refused}
use Rattle.pat_reduce.proofs.threads.state.ThreadState.step_locally.Goals as goal

pub returns-in-Err : goal.returns-in-Err
returns-in-Err c =
    let p = program_view c.args.code.now.program in
    let e = expr_view c.in-Some-Value.e in
    let env = env_view c.as_slice.result.now in
    let at : redex p (control_view c.args.self.now.control) ≡ At (Val e) env = search rules in
    refused value_view (eval env e) thread_view _ _ _ c.in-Err.error (value_refused p (thread_view c.args.self.now) e env at) refl c.in-Err.ensures

pub returns-in-Err-enter : goal.returns-in-Err-enter
returns-in-Err-enter c =
    let p = program_view c.args.code.now.program in
    let args = map expr_view c.as_slice-in-Some-Call.result.now in
    let env = env_view c.as_slice-in-Some-Call-2.result.now in
    let at : redex p (control_view c.args.self.now.control) ≡ At (Call c.in-Some-Call.function args) env = search rules in
    refused control_view (entered p (function_at p c.in-Some-Call.function) (option_map (numbered 0) (eval_all env args))) thread_view _ _ _ c.in-Err-enter.error (call_refused p (thread_view c.args.self.now) c.in-Some-Call.function args env at) refl c.in-Err-enter.ensures
