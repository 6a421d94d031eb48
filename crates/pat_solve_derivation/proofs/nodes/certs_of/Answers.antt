use Rattle.std.proofs.Common.{◌≡◌, ◌<◌, length, sym, ◌∙◌, subst}
use Rattle.std.proofs.lemmas.List.{length-map}
use Rattle.std.proofs.lemmas.Result.{IfOk-weaker}
use Rattle.pat_solve_spec.specs.Derived.{AreCertsFor, needed_at}
use Rattle.pat_core.specs.Views.{node_view, function_view, program_view}
use Rattle.pat_derivations.specs.Views.{certs_view, line_view, derivation_view}
use Rattle.pat_solve_derivation.specs.certificates.Making.{scope_in, forms_in}
use Rattle.pat_solve_derivation.specs.Made.{HasCerts}
use Rattle.pat_solve_derivation.proofs.Needing.{as_many_lines, function_within, has_certs}
use Rattle.pat_solve_derivation.proofs.nodes.certs_of.Goals as goal

pub line_of-line-requires : goal.line_of-line-requires
line_of-line-requires c =
    let p = c.args.solved.now.program.now in
    let d = c.args.solved.now.derivation.now in
    let as_many : length d.nodes ≡ length p.nodes = sym (length-map d.nodes line_view) ∙ as_many_lines (program_view p) (forms_in c.args.solved.now) (derivation_view d) c.requires.bare ∙ length-map p.nodes node_view in
    subst (λ m. c.args.number < m) (sym as_many) c.requires.within

pub function_of-function-requires : goal.function_of-function-requires
function_of-function-requires c =
    let p = c.args.solved.now.program.now in
    subst (λ m. c.node_of-node.result.now.function < m) (length-map p.functions function_view)
    (function_within (program_view p) c.requires.solved.well c.args.number (node_view c.node_of-node.result.now) c.node_of-node.ensures)

pub returns-clause-certs : goal.returns-clause-certs
returns-clause-certs c =
    let p = program_view c.args.solved.now.program.now in
    let vars = (derivation_view c.args.solved.now.derivation.now).vars in
    let forms = forms_in c.args.solved.now in
    let node = node_view c.node_of-node.result.now in
    let function = function_view c.function_of-function.result.now in
    IfOk-weaker c.certs_at.result (λ certs. AreCertsFor (scope_in c.args.solved.now) forms (needed_at p vars c.args.number node function) (certs_view certs))
    (λ certs. HasCerts p vars forms c.args.number (certs_view certs))
    (λ certs h. has_certs p vars forms c.args.number node function (certs_view certs) c.node_of-node.ensures c.function_of-function.ensures h)
    c.certs_at.ensures.certs
