use Rattle.std.proofs.Common.{rules, ◌≡◌, Some, drop, List, [], ◌∷◌, ◌++◌, option_map, sym, subst}
use Rattle.pat_inclusion_spec.specs.Certificates.{Inclusion, are_shown as are_shown_of}
use Rattle.pat_derivation_spec.specs.Derivations.{scope_of}
use Rattle.pat_derivation_spec.specs.Demands.{inclusions_of}
use Rattle.pat_patterns.specs.Views.{pattern_view}
use Rattle.pat_core.specs.Views.{program_view}
use Rattle.pat_derivations.specs.Views.{certs_view, derivation_view}
use Rattle.pat_obligations.specs.Views.{demand_view}
use Rattle.pat_certificate_checks.specs.Shown.{Takes}
use Rattle.pat_certificate_checks.specs.Views.{side_view}
use Rattle.pat_certificate_checks.specs.declared.showing.Showing.TheVariants as outcome
use Rattle.pat_certificate_checks.proofs.Taken.{leaves_rest}
use Rattle.pat_certificate_checks.proofs.showing.after_inclusion.Goals as goal

pub returns-clause-left : goal.returns-clause-left
returns-clause-left c =
    let s = scope_of (program_view c.args.program.now) (derivation_view c.args.derivation.now) in
    let needed = c.in-Some.needed in
    let qs = inclusions_of (demand_view c.args.demand.now) in
    let cs = c.args.certs.now in
    let some : c.in_ok-inclusion_of.field-0 ≡ Some needed = search rules in
    let how : c.in_ok-shown-in-Some.field-0 ≡ outcome.ByNext = search rules in
    let takes = subst (Takes s needed.interface (side_view needed.left) (pattern_view needed.right.now) (certs_view cs)) how c.in_ok-shown-in-Some.ensures.taken in
    let own : (record { interface = needed.interface; left = side_view needed.left; right = pattern_view needed.right.now }) ∷ [] ≡ qs = search rules in
    subst (λ l. (more : List Inclusion) → are_shown_of s (qs ++ more) (certs_view cs) ≡ are_shown_of s more (certs_view l)) (sym c.but_first.ensures) (leaves_rest s _ qs cs own takes)
