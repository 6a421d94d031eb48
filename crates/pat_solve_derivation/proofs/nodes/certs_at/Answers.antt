use Rattle.std.proofs.Common.{◌≡◌, [], sym, ap, ◌∙◌, subst}
use Rattle.std.specs.List.{AllByRecursion, flat_map}
use Rattle.std.proofs.lemmas.Result.{IfOk-weaker}
use Rattle.pat_derivation_spec.specs.Demands.{inclusions_of}
use Rattle.pat_derivation_spec.specs.Conditions.{demands}
use Rattle.pat_derivation_spec.specs.Truth.{place}
use Rattle.pat_solve_spec.specs.Derived.{AreCertsFor, needed_at}
use Rattle.pat_solve_spec.specs.Laws.{IsWritten}
use Rattle.pat_core.specs.Views.{node_view, function_view, program_view}
use Rattle.pat_derivations.specs.Views.{certs_view, line_view, derivation_view}
use Rattle.pat_obligations.specs.Views.{demands_view}
use Rattle.pat_solve_derivation.specs.certificates.Making.{scope_in, forms_in, IsMet}
use Rattle.pat_solve_derivation.proofs.Needing.{all_met, all_written, certs_needed}
use Rattle.pat_solve_derivation.proofs.nodes.certs_at.Goals as goal

pub certificates-requires-clause-met : goal.certificates-requires-clause-met
certificates-requires-clause-met c =
    let p = program_view c.args.solved.now.program.now in
    let d = derivation_view c.args.solved.now.derivation.now in
    let node = node_view c.args.node.now in
    let function = function_view c.args.function.now in
    let line = line_view c.args.line.now in
    let is : demands_view c.as_slice.result.now ≡ demands p d (place c.args.number node function line) = ap demands_view c.as_slice.ensures ∙ c.in_ok-all.ensures in
    subst (λ ds. AllByRecursion (IsMet (scope_in c.args.solved.now) (forms_in c.args.solved.now)) (flat_map inclusions_of ds)) (sym is)
    (all_met p (forms_in c.args.solved.now) d c.requires.bare c.args.number node function line c.requires.node c.requires.line c.derived_laws.ensures.shown c.requires.solved.well c.requires.function)

pub certificates-requires-clause-written : goal.certificates-requires-clause-written
certificates-requires-clause-written c =
    let p = program_view c.args.solved.now.program.now in
    let d = derivation_view c.args.solved.now.derivation.now in
    let node = node_view c.args.node.now in
    let function = function_view c.args.function.now in
    let line = line_view c.args.line.now in
    let is : demands_view c.as_slice.result.now ≡ demands p d (place c.args.number node function line) = ap demands_view c.as_slice.ensures ∙ c.in_ok-all.ensures in
    subst (AllByRecursion IsWritten) (sym is)
    (all_written p (forms_in c.args.solved.now) d c.requires.bare c.args.number node function line c.requires.node c.requires.line c.derived_laws.ensures.written c.requires.solved.well c.requires.function)

pub returns-clause-certs : goal.returns-clause-certs
returns-clause-certs c =
    let p = program_view c.args.solved.now.program.now in
    let d = derivation_view c.args.solved.now.derivation.now in
    let s = scope_in c.args.solved.now in
    let forms = forms_in c.args.solved.now in
    let node = node_view c.args.node.now in
    let function = function_view c.args.function.now in
    let line = line_view c.args.line.now in
    let is : demands_view c.as_slice.result.now ≡ demands p d (place c.args.number node function line) = ap demands_view c.as_slice.ensures ∙ c.in_ok-all.ensures in
    IfOk-weaker c.certificates.result (λ certs. AreCertsFor s forms (flat_map inclusions_of (demands_view c.as_slice.result.now)) (certs_view certs))
    (λ certs. AreCertsFor s forms (needed_at p d.vars c.args.number node function) (certs_view certs))
    (λ certs h. certs_needed p forms d c.requires.bare c.args.number node function line c.requires.node c.requires.line (certs_view certs)
    (subst (λ ds. AreCertsFor s forms (flat_map inclusions_of ds) (certs_view certs)) is h))
    c.certificates.ensures.certs

pub returns-then-is_let_apart-clause-certs : goal.returns-then-is_let_apart-clause-certs
returns-then-is_let_apart-clause-certs c =
    let p = program_view c.args.solved.now.program.now in
    let d = derivation_view c.args.solved.now.derivation.now in
    let s = scope_in c.args.solved.now in
    let forms = forms_in c.args.solved.now in
    let node = node_view c.args.node.now in
    let function = function_view c.args.function.now in
    let line = line_view c.args.line.now in
    subst (λ certs. AreCertsFor s forms (needed_at p d.vars c.args.number node function) (certs_view certs)) (sym c.new.ensures)
    (certs_needed p forms d c.requires.bare c.args.number node function line c.requires.node c.requires.line []
    (c.is_let_apart.ensures c.if-is_let_apart.true p line s forms
    (all_written p forms d c.requires.bare c.args.number node function line c.requires.node c.requires.line c.derived_laws.ensures.written c.requires.solved.well c.requires.function)))
