use Rattle.std.proofs.Common.{rules, ◌≡◌, ◌+◌, ◌∷◌, [], ◌++◌, map, sym, ap, ◌∙◌, subst}
use Rattle.std.proofs.lemmas.List.{map-append}
use Rattle.pat_core.specs.Views.{program_view}
use Rattle.pat_derivations.specs.Views.{certs_view, derivation_view}
use Rattle.pat_solve_derivation.specs.certificates.Making.{forms_in}
use Rattle.pat_solve_derivation.specs.Made.{AreMadeTo}
use Rattle.pat_solve_derivation.proofs.Filling.{made_more}
use Rattle.pat_solve_derivation.proofs.nodes.certs_of_each.Goals as goal

pub loop-number-preserved : goal.loop-number-preserved
loop-number-preserved c =
    let p = program_view c.args.solved.now.program.now in
    let vars = (derivation_view c.args.solved.now.derivation.now).vars in
    let forms = forms_in c.args.solved.now in
    let all = c.loop-number.all in
    let certs = c.in_ok-certs.certs in
    let pushed : c.push.new.self ≡ all ++ certs ∷ [] = search rules in
    let pieces : map certs_view c.push.new.self ≡ map certs_view all ++ certs_view certs ∷ [] = ap (map certs_view) pushed ∙ map-append certs_view all (certs ∷ []) in
    record {
      made =
          subst (AreMadeTo p vars forms (c.loop-number.number + 1)) (sym pieces)
          (made_more p vars forms c.loop-number.number (map certs_view all) (certs_view certs) c.loop-number.invariant.made c.in_ok-certs.ensures.certs);
      closed = c.in_ok-certs.ensures.closed;
    }
