use Rattle.std.proofs.Common.{◌≡◌, [], Some, None, ap, sym, ◌∙◌, rules}
use Rattle.pat_semantics_spec.specs.Programs.{Let, core_at, keep}
use Rattle.pat_semantics_spec.specs.Configs.{Running}
use Rattle.pat_semantics_spec.specs.Steps.{bind_name, frame_of, local_step, thread_of}
use Rattle.pat_reduce.specs.threads.Views.{program_view}
use Rattle.pat_reduce.specs.threads.ThreadViews.{thread_view}
use Rattle.pat_reduce_values.specs.ValueViews.{env_view, value_view}
use Rattle.pat_machine_threads.proofs.Lets.{led_on, led_to_let, through}
use Rattle.pat_machine_threads.proofs.settling.led_on.Goals as goal

pub returns-in_ok-opened-in-Some-Let-default : goal.returns-in_ok-opened-in-Some-Let-default
returns-in_ok-opened-in-Some-Let-default c =
    let p = program_view c.args.code.now.program in
    let f = c.args.frame.now in
    let v = value_view c.args.value.now in
    let way = c.in-Some-Let-default in
    let parted = c.in_ok-own-in-Some-Let-default in
    let outer : core_at p f.body ≡ Some (Let way.var way.bound way.body) = search rules in
    led_to_let p c.args.code.now.parts f.body way.bound way.body way.var f.var (env_view f.env) (env_view parted.own) (env_view parted.rest) v
    (thread_view c.in_ok-opened-in-Some-Let-default.field-0) outer
    (parted.ensures.bound ∙ ap (λ l. keep p way.bound (bind_name (env_view l) f.var v)) c.as_slice-env.ensures)
    (parted.ensures.body ∙ ap (λ l. (frame_of p way.var way.body (bind_name (env_view l) f.var v)).env) c.as_slice-env.ensures)
    c.in_ok-opened-in-Some-Let-default.ensures

pub returns-in-Some-Call-None : goal.returns-in-Some-Call-None
returns-in-Some-Call-None c =
    let p = program_view c.args.code.now.program in
    let f = c.args.frame.now in
    let none : f.var ≡ None = search rules in
    through c.called.result
    (λ s h. led_on p c.args.code.now.parts f.body f.var (env_view f.env) (value_view c.args.value.now) (thread_view s) none
    (ap (λ l. local_step p (thread_of (Running f.body (env_view l)) [])) (sym c.as_slice-env.ensures) ∙ h))
    c.called.ensures
