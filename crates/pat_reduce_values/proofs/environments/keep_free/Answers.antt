use Rattle.std.proofs.Common.{rules, ap, ◌∙◌, ℕ}
use Rattle.std.specs.Prelude.{filter}
use Rattle.std.proofs.lemmas.Fn.{filter_same}
use Rattle.pat_primitives.specs.Programs.{is_among, is_free}
use Rattle.pat_core.specs.Views.{program_view}
use Rattle.pat_reduce_values.specs.declared.values.Value.{Value}
use Rattle.pat_reduce_values.specs.ValueViews.{env_view, value_view}
use Rattle.pat_reduce_values.proofs.Finds.{filter_alike, filter_map_same}
use Rattle.pat_reduce_values.proofs.environments.keep_free.Goals as goal

pub returns : goal.returns
returns c =
    let p = program_view c.args.code.now.program in
    let listed = λ (e : ℕ × Value). is_among e.0 c.free_in-free.result.listed.now in
    ap env_view (filter_same _ listed _ (λ x b f' k. search rules) _ _ c.retain.ensures.filtered ∙ ap (filter listed) c.env.view_is)
    ∙ ap env_view (filter_alike listed (λ (e : ℕ × Value). is_free p e.0 c.args.node) c.args.env.now (λ e. c.free_in-free.ensures e.0))
    ∙ filter_map_same (λ e. is_free p e.0 c.args.node) (λ e. (e.0, value_view e.1)) c.args.env.now
