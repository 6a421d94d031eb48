use Rattle.std.proofs.Common.{◌++◌, [], ◌∷◌, None, Some, ap, sym, ◌∙◌}
use Rattle.pat_primitives.specs.Programs.{keep}
use Rattle.pat_primitives.specs.Steps.{bind_name}
use Rattle.pat_core.specs.Views.{program_view}
use Rattle.pat_reduce_values.specs.Environments.{keep_but}
use Rattle.pat_reduce_values.specs.ValueViews.{env_view, reference_view, value_view}
use Rattle.pat_reduce_values.proofs.Keeping.{none_but}
use Rattle.pat_reduce_values.proofs.LetBodies.{kept_with_last}
use Rattle.pat_reduce_values.proofs.environments.divided_with.Goals as goal

pub returns-then-are_less-clause-bound : goal.returns-then-are_less-clause-bound
returns-then-are_less-clause-bound c =
    let p = program_view c.args.code.now.program in
    let env = env_view c.args.env.now in
    let x = c.in-Some.named in
    let v = value_view c.args.value.now in
    c.in_ok-push_entry.ensures
    ∙ ap (λ l. l ++ keep_but p c.args.bound None ((x, reference_view c.borrow.result) ∷ [])) (c.in_ok-own.ensures.bound ∙ sym (none_but p c.args.bound env))
    ∙ ap (λ w. keep_but p c.args.bound None env ++ keep_but p c.args.bound None ((x, w) ∷ [])) c.borrow.ensures
    ∙ kept_with_last p c.args.bound None env x v (c.are_less.ensures c.if-are_less.true)
    ∙ none_but p c.args.bound (bind_name env (Some x) v)
    ∙ ap (λ o. keep p c.args.bound (bind_name env o v)) (sym c.in-Some.is)

pub returns-then-are_less-clause-body : goal.returns-then-are_less-clause-body
returns-then-are_less-clause-body c =
    let p = program_view c.args.code.now.program in
    let env = env_view c.args.env.now in
    let x = c.in-Some.named in
    let v = value_view c.args.value.now in
    let y = c.args.var in
    c.in_ok-push_entry-2.ensures
    ∙ ap (λ l. l ++ keep_but p c.args.body y ((x, reference_view c.borrow-then-are_less.result) ∷ [])) c.in_ok-own.ensures.body
    ∙ ap (λ w. keep_but p c.args.body y env ++ keep_but p c.args.body y ((x, w) ∷ [])) c.borrow-then-are_less.ensures
    ∙ kept_with_last p c.args.body y env x v (c.are_less.ensures c.if-are_less.true)
    ∙ ap (λ o. keep_but p c.args.body y (bind_name env o v)) (sym c.in-Some.is)
