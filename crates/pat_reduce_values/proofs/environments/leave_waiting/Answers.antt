use Rattle.std.proofs.Common.{rules, Some, sym, ◌≡◌, true, ℕ, not, nat_eq, ◌&&◌, ap, ◌∙◌}
use Rattle.std.specs.Prelude.{filter}
use Rattle.std.proofs.lemmas.Fn.{filter_same}
use Rattle.pat_primitives.specs.Programs.{is_among}
use Rattle.pat_core.specs.Views.{program_view}
use Rattle.pat_reduce_values.specs.declared.values.Value.{Value}
use Rattle.pat_reduce_values.specs.ValueViews.{env_view}
use Rattle.pat_reduce_values.specs.Environments.{keep_but}
use Rattle.pat_reduce_values.proofs.LetBodies.{waiting_values, waits_with_all}
use Rattle.pat_reduce_values.proofs.environments.leave_waiting.Goals as goal

pub returns-clause-waits : goal.returns-clause-waits
returns-clause-waits c =
    let x = c.args.variable in
    let free = c.free_in-free.result.listed.now in
    let stays = λ (e : ℕ × Value). not (nat_eq e.0 x) && is_among e.0 free in
    ap env_view (filter_same _ stays _ (λ y b f' k. search rules) _ _ c.retain.ensures.filtered ∙ ap (filter stays) c.env.view_is)
    ∙ waiting_values (program_view c.args.code.now.program) c.args.body x free c.args.env.now c.free_in-free.ensures

pub returns-then-are_free_below-clause-waits : goal.returns-then-are_free_below-clause-waits
returns-then-are_free_below-clause-waits c =
    let p = program_view c.args.code.now.program in
    let all = c.if-are_free_below.true in
    ap env_view (sym c.as_slice.ensures)
    ∙ waits_with_all p c.args.body c.args.variable (env_view c.as_slice.result.now) (c.are_free_below.ensures.free all) (c.are_free_below.ensures.less all)
    ∙ ap (λ l. keep_but p c.args.body (Some c.args.variable) (env_view l)) c.as_slice.ensures
