use Rattle.std.proofs.Common.{rules, ◌≡◌, Some, None, option_map, subst}
use Rattle.std.proofs.lemmas.Result.{on_ok_weaker}
use Rattle.pat_patterns.specs.Views.{pattern_view}
use Rattle.pat_derivations.specs.Views.{cert_view}
use Rattle.pat_certificate_checks.specs.Views.{inclusion_view}
use Rattle.pat_solve_derivation.specs.certificates.Making.{scope_in, forms_in, IsCertIf}
use Rattle.pat_solve_derivation.proofs.Added.{adds_none, adds_one}
use Rattle.pat_solve_derivation.proofs.certificates.adding.push_certificate.Goals as goal

pub returns-in-None-2-clause-certs : goal.returns-in-None-2-clause-certs
returns-in-None-2-clause-certs c =
    let s = scope_in c.args.solved.now in
    let forms = forms_in c.args.solved.now in
    let i = c.in-Some.interface in
    let right = pattern_view c.args.needed.now.right.now in
    let made = c.in_ok-certificate-in-Some.field-0 in
    let none : c.in_ok-certificate-in-Some.field-0 ≡ None = search rules in
    adds_none s forms (inclusion_view c.args.needed.now) i c.args.certs.now made none
    (subst (λ e. IsCertIf s i e right (forms i) (option_map cert_view made)) c.as_pattern-left.ensures c.in_ok-certificate-in-Some.ensures.cert)

pub returns-in-Some-2-clause-certs : goal.returns-in-Some-2-clause-certs
returns-in-Some-2-clause-certs c =
    let s = scope_in c.args.solved.now in
    let forms = forms_in c.args.solved.now in
    let i = c.in-Some.interface in
    let right = pattern_view c.args.needed.now.right.now in
    let made = c.in_ok-certificate-in-Some.field-0 in
    let some : c.in_ok-certificate-in-Some.field-0 ≡ Some c.in-Some-2.cert = search rules in
    let at : c.args.needed.now.interface ≡ Some c.in-Some.interface = search rules in
    on_ok_weaker c.push.result
    (λ new. adds_one s forms (inclusion_view c.args.needed.now) i c.args.certs.now c.push.new.self made c.in-Some-2.cert some at
    (subst (λ e. IsCertIf s i e right (forms i) (option_map cert_view made)) c.as_pattern-left.ensures c.in_ok-certificate-in-Some.ensures.cert) new)
    c.push.ensures.ok

pub returns-in-Some-2-clause-closed : goal.returns-in-Some-2-clause-closed
returns-in-Some-2-clause-closed c =
    on_ok_weaker c.push.result (λ _. c.in_ok-certificate-in-Some.ensures.closed) c.push.ensures.ok
