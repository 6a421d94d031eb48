use Rattle.std.proofs.Common.{rules, ◌≡◌, ◌+◌, ◌<◌, ◌∷◌, [], ◌++◌, List, length, map, sym, ap, ◌∙◌, subst, arith}
use Rattle.std.proofs.lemmas.List.{length-map, length-append, map-append}
use Rattle.pat_inclusion_spec.specs.Certificates.{Cert}
use Rattle.pat_derivations.specs.Views.{certs_view, line_view, lines_view}
use Rattle.pat_solve_derivation.specs.Lines.{with_certs}
use Rattle.pat_solve_derivation.proofs.Filling.{with_none, with_put}
use Rattle.pat_solve_derivation.proofs.lines.put_certs.Goals as goal

pub loop-own-preserved : goal.loop-own-preserved
loop-own-preserved c =
    let lines = c.loop-own.lines in
    let left = c.pop.new.self in
    let own = c.in-Some.own in
    let popped : c.loop-own.left ≡ left ++ own ∷ [] = search rules in
    let counted : length c.loop-own.left ≡ length left + 1 = ap length popped ∙ length-append left (own ∷ []) in
    let place : c.len.result ≡ length (map certs_view left) = c.len.ensures ∙ sym (length-map left certs_view) in
    let within : c.len.result < length (lines_view lines) = subst (λ m. c.len.result < m) (sym (length-map lines line_view)) (omega (arith, counted, c.loop-own.invariant.enough, c.len.ensures)) in
    let pieces : map certs_view c.loop-own.left ≡ map certs_view left ++ certs_view own ∷ [] = ap (map certs_view) popped ∙ map-append certs_view left (own ∷ []) in
    record {
      enough = omega (arith, counted, c.loop-own.invariant.enough);
      same = with_put (lines_view lines) (lines_view c.put_at.new.lines) (map certs_view left) (certs_view own) c.len.result place within c.put_at.ensures
          ∙ ap (λ (all : List (List Cert)). with_certs (lines_view lines) all) (sym pieces)
          ∙ c.loop-own.invariant.same;
    }

pub returns : goal.returns
returns c =
    let none : c.loop-own.left ≡ [] = search rules in
    sym (with_none (lines_view c.loop-own.lines))
    ∙ ap (λ all. with_certs (lines_view c.loop-own.lines) (map certs_view all)) (sym none)
    ∙ c.loop-own.invariant.same
