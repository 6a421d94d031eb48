use Rattle.std.proofs.Common.{[], ◌∷◌, ◌++◌, ap, sym, ◌∙◌}
use Rattle.std.proofs.lemmas.List.{map-append}
use Rattle.pat_core.specs.Views.{program_view}
use Rattle.pat_reduce_values.specs.ValueViews.{env_view, value_view}
use Rattle.pat_reduce_values.proofs.LetBodies.{bind_last, used_in, unused_in, unnamed_in}
use Rattle.pat_reduce_values.proofs.environments.enter_body.Goals as goal

pub returns-in_default : goal.returns-in_default
returns-in_default c =
    unnamed_in (program_view c.args.code.now.program) c.args.body c.args.var (env_view c.args.env.now) (env_view c.keep_free.new.env) (value_view c.args.value) c.in_default.is c.keep_free.ensures

pub returns-then-not-is_free : goal.returns-then-not-is_free
returns-then-not-is_free c =
    unused_in (program_view c.args.code.now.program) c.args.body c.args.var c.in-Some.variable (env_view c.args.env.now) (env_view c.leave_waiting-comes_last.new.env) (value_view c.args.value) c.is_free.result c.in-Some.is
    c.leave_waiting-comes_last.ensures.waits c.is_free.ensures c.if-not-is_free.true

pub returns-in_ok-push : goal.returns-in_ok-push
returns-in_ok-push c =
    let x = c.in-Some.variable in
    let waits = c.leave_waiting-comes_last.new.env in
    let v = value_view c.args.value in
    let last = c.leave_waiting-comes_last.ensures.last c.if-comes_last.true in
    used_in (program_view c.args.code.now.program) c.args.body c.args.var x (env_view c.args.env.now) (env_view waits) _ v c.is_free.result c.in-Some.is
    c.leave_waiting-comes_last.ensures.waits c.is_free.ensures c.if-not-is_free.false
    (ap env_view (c.in_ok-push.ensures.items ∙ ap (λ l. l ++ (x, c.args.value) ∷ []) c.env.view_is)
    ∙ map-append _ waits ((x, c.args.value) ∷ [])
    ∙ sym (bind_last (env_view waits) x v last))

pub returns-in_ok-bind : goal.returns-in_ok-bind
returns-in_ok-bind c =
    used_in (program_view c.args.code.now.program) c.args.body c.args.var c.in-Some.variable (env_view c.args.env.now) (env_view c.leave_waiting-comes_last.new.env) (env_view c.bind.new.env) (value_view c.args.value) c.is_free.result c.in-Some.is
    c.leave_waiting-comes_last.ensures.waits c.is_free.ensures c.if-not-is_free.false c.in_ok-bind.ensures
