use Rattle.std.proofs.Common.{map, sym, subst}
use Rattle.pat_core.specs.Views.{program_view}
use Rattle.pat_derivation_spec.specs.Derivations.{Derivation}
use Rattle.pat_derivations.specs.Views.{certs_view, vars_view, lines_view}
use Rattle.pat_solve_bounds.specs.results.Views.{forms_of}
use Rattle.pat_solve_derivation.specs.Made.{IsDerived}
use Rattle.pat_solve_derivation.proofs.Bare.{is_bare}
use Rattle.pat_solve_derivation.proofs.Filling.{is_derived}
use Rattle.pat_solve_derivation.proofs.making.derived.Goals as goal

pub all_certs-requires-clause-bare : goal.all_certs-requires-clause-bare
all_certs-requires-clause-bare c =
    is_bare (program_view c.args.program.now) (vars_view c.args.values) (forms_of c.args.bounds.now) c.args.types (lines_view c.in_ok-nodes.nodes) c.requires.clean c.requires.show c.requires.found c.in_ok-nodes.ensures

pub returns : goal.returns
returns c =
    let p = program_view c.args.program.now in
    let vars = vars_view c.args.values in
    let forms = forms_of c.args.bounds.now in
    let lines = lines_view c.in_ok-nodes.nodes in
    let bare = is_bare p vars forms c.args.types lines c.requires.clean c.requires.show c.requires.found c.in_ok-nodes.ensures in
    subst (λ (d : Derivation). IsDerived p vars forms d) (sym c.completed.ensures)
    (is_derived p vars forms (record { vars = vars; lines = lines }) (map certs_view c.in_ok-certs.certs) bare.is c.in_ok-certs.ensures)
