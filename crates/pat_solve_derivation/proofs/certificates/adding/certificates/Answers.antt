use Rattle.std.proofs.Common.{◌≡◌, ◌+◌, List, ◌∷◌, [], ◌++◌, drop, sym, ap, ◌∙◌, subst}
use Rattle.std.specs.List.{AllByRecursion, flat_map}
use Rattle.std.proofs.lemmas.List.{drop_more, drop_all}
use Rattle.pat_inclusion_spec.specs.Certificates.{Inclusion}
use Rattle.pat_derivation_spec.specs.Demands.{inclusions_of}
use Rattle.pat_infer_laws.proofs.Gathering.{all_parts}
use Rattle.pat_obligations.specs.Views.{demand_view, demands_view}
use Rattle.pat_solve_spec.specs.Laws.{IsWritten}
use Rattle.pat_solve_derivation.specs.certificates.Making.{scope_in, forms_in, IsMet}
use Rattle.pat_solve_derivation.proofs.Added.{Completes, completes_more, completes_all}
use Rattle.pat_solve_derivation.proofs.certificates.adding.certificates.Goals as goal

pub loop-demand-preserved : goal.loop-demand-preserved
loop-demand-preserved c =
    let s = scope_in c.args.solved.now in
    let forms = forms_in c.args.solved.now in
    let ds = c.args.demands.now in
    let i = c.loop-demand.demand-index in
    let d = c.demand-item.result in
    let all = flat_map inclusions_of (demands_view ds) in
    let own = inclusions_of (demand_view d) in
    let rest = flat_map inclusions_of (demands_view (drop (i + 1) ds)) in
    let here : drop i ds ≡ d ∷ drop (i + 1) ds = drop_more ds i d c.loop-demand-test.true ∙ ap (λ x. x ∷ drop (i + 1) ds) (sym c.demand-item.is) in
    let whole : flat_map inclusions_of (demands_view (drop i ds)) ≡ own ++ rest = ap (λ xs. flat_map inclusions_of (demands_view xs)) here in
    let written = subst (λ xs. AllByRecursion IsWritten (demands_view xs)) here c.loop-demand.invariant.written in
    record {
      met = (all_parts (IsMet s forms) own rest (subst (AllByRecursion (IsMet s forms)) whole c.loop-demand.invariant.met)).1;
      written = written.1;
      made = completes_more s forms all own rest c.loop-demand.certs c.push_for.new.certs
          (subst (λ (qs : List Inclusion). Completes s forms all qs c.loop-demand.certs) whole c.loop-demand.invariant.made)
          c.in_ok-push_for.ensures.certs;
      closed = c.in_ok-push_for.ensures.closed;
    }

pub returns-clause-certs : goal.returns-clause-certs
returns-clause-certs c =
    let s = scope_in c.args.solved.now in
    let forms = forms_in c.args.solved.now in
    let ds = c.args.demands.now in
    let i = c.loop-demand.demand-index in
    let all = flat_map inclusions_of (demands_view ds) in
    let none : drop i ds ≡ [] = drop_all i ds c.loop-demand-test.false in
    completes_all s forms all c.loop-demand.certs
    (subst (λ (qs : List Inclusion). Completes s forms all qs c.loop-demand.certs) (ap (λ xs. flat_map inclusions_of (demands_view xs)) none) c.loop-demand.invariant.made)
