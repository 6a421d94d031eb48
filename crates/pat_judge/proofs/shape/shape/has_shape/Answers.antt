use Rattle.std.proofs.Common.{◌&&◌, ap, ap₂, ◌∙◌}
use Rattle.pat_core.specs.Views.{node_view, function_view, program_view}
use Rattle.pat_types.specs.Views.{needs_view}
use Rattle.pat_derivations.specs.Views.{line_view, derivation_view}
use Rattle.pat_derivation_spec.specs.Derivations.{ascends_from}
use Rattle.pat_derivation_spec.specs.Truth.{place}
use Rattle.pat_judge.proofs.Shaped.{names_are, six_are}
use Rattle.pat_judge.proofs.shape.shape.has_shape.Goals as goal

pub returns : goal.returns
returns c =
    c.all_six.ensures
    ∙ six_are (program_view c.args.program.now) (derivation_view c.args.derivation.now) (place c.args.number (node_view c.args.node.now) (function_view c.args.function.now) (line_view c.args.line.now)) c.has_kind-kind.result c.ascends-order.result c.both-names.result c.type_is_formed-formed.result c.tails_agree-tails.result c.first_agrees-first.result
    c.has_kind-kind.ensures
    (c.ascends-order.ensures ∙ ap (λ env. ascends_from 0 (needs_view env)) c.as_slice-env.ensures)
    (c.both-names.ensures
    ∙ ap₂ (λ a b. a && b) c.requires.scope c.requires.well
    ∙ names_are (program_view c.args.program.now) (derivation_view c.args.derivation.now) c.args.number (node_view c.args.node.now) (function_view c.args.function.now) (needs_view c.args.line.now.of.env) c.requires.node c.requires.function)
    c.type_is_formed-formed.ensures
    c.tails_agree-tails.ensures
    c.first_agrees-first.ensures
    c.requires.values
