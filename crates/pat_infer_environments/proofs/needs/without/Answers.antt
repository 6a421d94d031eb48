use Rattle.std.proofs.Common.{rules, not, ap, ◌∙◌}
use Rattle.std.proofs.lemmas.Fn.{filter_same}
use Rattle.pat_semantics_spec.specs.Programs.{is_among}
use Rattle.pat_infer_spec.specs.Needs.{needs_but}
use Rattle.pat_types.specs.Views.{needs_view}
use Rattle.pat_infer_environments.proofs.Putting.{view_filter}
use Rattle.pat_infer_environments.proofs.needs.without.Goals as goal

pub returns : goal.returns
returns c =
    ap needs_view
    (filter_same _ (λ e. not (is_among e.0 c.args.names.now)) _ (λ e b q r. search rules) _ _ c.retain.ensures.filtered)
    ∙ view_filter c.args.names.now c.needs.inside.items.items
    ∙ ap (λ es. needs_but c.args.names.now (needs_view es)) c.needs.view_is
