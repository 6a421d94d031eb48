use Rattle.std.proofs.Common.{rules, ◌≡◌, true, map, ◌∙◌}
use Rattle.std.specs.Prelude.{nat_eq}
use Rattle.pat_core.specs.Views.{node_view, function_view, program_view}
use Rattle.pat_types.specs.Views.{result_view}
use Rattle.pat_obligations.specs.Views.{signature_view}
use Rattle.pat_derivations.specs.Views.{line_view, derivation_view}
use Rattle.pat_derivation_spec.specs.Truth.{place}
use Rattle.pat_judge.proofs.Shaped.{agrees, at_first}
use Rattle.pat_judge.proofs.shape.shape.first_agrees.Goals as goal

pub returns-else-function-number : goal.returns-else-function-number
returns-else-function-number c =
    let same : nat_eq c.args.function.now.body c.args.number ≡ true = search rules in
    c.has_result.ensures
    ∙ agrees (program_view c.args.program.now) (derivation_view c.args.derivation.now) c.args.node.now.function (function_view c.args.function.now) (map signature_view c.args.signatures.now) c.requires.signatures c.requires.function (result_view c.args.line.now.of.result)
    ∙ at_first (program_view c.args.program.now) (derivation_view c.args.derivation.now) (place c.args.number (node_view c.args.node.now) (function_view c.args.function.now) (line_view c.args.line.now)) same
