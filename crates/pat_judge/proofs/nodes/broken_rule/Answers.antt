use Rattle.std.proofs.Common.{rules, ◌≡◌, Some, None, option_map, ap, ◌∙◌, subst}
use Rattle.std.specs.Prelude.{IfOk}
use Rattle.pat_semantics_spec.specs.Programs.{node_at, function_at}
use Rattle.pat_derivation_spec.specs.Derivations.{line_at}
use Rattle.pat_derivation_spec.specs.Validity.{broken_in}
use Rattle.pat_core.specs.Views.{node_view, program_view}
use Rattle.pat_derivations.specs.Views.{line_view, derivation_view}
use Rattle.pat_judge.specs.Views.{rule_view}
use Rattle.pat_judge.proofs.FirstBad.{with_node, line_alone}
use Rattle.pat_judge.proofs.nodes.broken_rule.Goals as goal

pub returns-in-Some : goal.returns-in-Some
returns-in-Some c =
    let there : Some (node_view c.in-Some.node.now) ≡ node_at (program_view c.args.program.now) c.args.number = search rules in
    subst (λ z. IfOk c.broken_at_node.result (λ o. option_map rule_view o ≡ z))
    (ap (broken_in (program_view c.args.program.now) (derivation_view c.args.derivation.now) c.args.number (node_view c.in-Some.node.now) (function_at (program_view c.args.program.now) c.in-Some.node.now.function)) c.line_of-line.ensures
    ∙ with_node (program_view c.args.program.now) (derivation_view c.args.derivation.now) c.args.number (node_view c.in-Some.node.now) there)
    c.broken_at_node.ensures

pub returns-in-Some-line : goal.returns-in-Some-line
returns-in-Some-line c =
    let none : None ≡ node_at (program_view c.args.program.now) c.args.number = search rules in
    let some : Some (line_view c.in-Some-line.field-0.now) ≡ line_at (derivation_view c.args.derivation.now) c.args.number = search rules in
    line_alone (program_view c.args.program.now) (derivation_view c.args.derivation.now) c.args.number (line_view c.in-Some-line.field-0.now) none some
