use Rattle.std.proofs.Common.{rules, ◌≡◌, None, option_map, sym, ap, ◌∙◌}
use Rattle.pat_derivation_spec.specs.Demands.{inclusions_of}
use Rattle.pat_obligations.specs.Views.{demand_view}
use Rattle.pat_certificate_checks.specs.Views.{inclusion_view, listed}
use Rattle.pat_solve_derivation.specs.certificates.Making.{scope_in, forms_in}
use Rattle.pat_solve_derivation.proofs.Added.{adds_nothing}
use Rattle.pat_solve_derivation.proofs.certificates.adding.push_for_inclusion.Goals as goal

pub returns-in-None-clause-certs : goal.returns-in-None-clause-certs
returns-in-None-clause-certs c =
    let none : c.in_ok-inclusion_of.field-0 ≡ None = search rules in
    adds_nothing (scope_in c.args.solved.now) (forms_in c.args.solved.now) (inclusions_of (demand_view c.args.demand.now)) c.args.certs.now
    (sym (ap (λ o. listed (option_map inclusion_view o)) none) ∙ c.in_ok-inclusion_of.ensures)
