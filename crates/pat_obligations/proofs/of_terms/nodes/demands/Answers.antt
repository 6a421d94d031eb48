use Rattle.std.proofs.Common.{rules, ◌≡◌, ◌++◌, map, ◌∙◌}
use Rattle.pat_core.specs.Views.{node_view, function_view, program_view}
use Rattle.pat_derivation_spec.specs.Conditions.{Place}
use Rattle.pat_derivation_spec.specs.Truth.{place}
use Rattle.pat_derivations.specs.Views.{line_view, derivation_view}
use Rattle.pat_obligations.specs.Views.{demands_view, signature_view}
use Rattle.pat_obligations.specs.Listed.{listed_term}
use Rattle.pat_obligations.specs.of_terms.First.{listed_at_first}
use Rattle.pat_obligations.proofs.NodeDemands.{demands_are}
use Rattle.pat_obligations.proofs.of_terms.nodes.demands.Goals as goal

pub returns : goal.returns
returns c =
    let p = program_view c.args.program.now in
    let d = derivation_view c.args.derivation.now in
    let gs = map signature_view c.args.signatures.now in
    let h : Place = place c.args.number (node_view c.args.node.now) (function_view c.args.function.now) (line_view c.args.line.now) in
    let both : demands_view c.term.new.out ≡ listed_at_first gs h ++ listed_term p d gs h.function.vars h.line.of h.node.core = search rules in
    both ∙ demands_are p d gs c.requires.signatures h c.requires.function
