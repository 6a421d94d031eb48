-- Certificates that are put in the place of those of lines.
use Rattle.std.proofs.Common.{◌≡◌, ℕ, suc, ◌+◌, ◌<◌, List, [], ◌∷◌, ◌++◌, Some, length, get_or, set, refl, sym, ap, ap₂, ◌∙◌, subst, arith, below_more, None}
use Rattle.std.specs.Prelude.{slice_get}
use Rattle.std.proofs.lemmas.List.{get_or_append_left, length-append, map-set}
use Rattle.std.proofs.lemmas.Option.{slice_get_within, slice_get-get_or, get_or_from_slice_get}
use Rattle.std.proofs.Math.ListN.{get_or-map}
use Rattle.std.proofs.Math.Seq.{get_or-append_seam}
use Rattle.pat_semantics_spec.specs.Programs.{Node, Program}
use Rattle.pat_inclusion_spec.specs.Values.{VarLine}
use Rattle.pat_inclusion_spec.specs.Certificates.{Cert}
use Rattle.pat_derivation_spec.specs.Derivations.{Line, Derivation}
use Rattle.pat_solve_spec.specs.Derived.{Form, CertsMade, type_or_unit, found_line, no_certs, lines_from, derivation_with}
use Rattle.pat_derivations.specs.declared.data.Cert.{Cert as CodeCert}
use Rattle.pat_derivations.specs.declared.data.DerivedNode.{DerivedNode}
use Rattle.pat_derivations.specs.Views.{certs_view, line_view, lines_view}
use Rattle.pat_solve_derivation.specs.Lines.{bare_line, line_with, with_certs}
use Rattle.pat_solve_derivation.specs.Made.{HasCerts, certs_in, AreMadeTo, AreMade, IsDerived}

pub with_none : (ls : List Line) → with_certs ls [] ≡ ls
with_none [] = refl
with_none (l ∷ ls) = refl

-- the last certificates first
pub with_last : (ls : List Line) (all : List (List Cert)) (certs : List Cert) (l : Line) → slice_get ls (length all) ≡ Some l → with_certs (set ls (length all) (line_with l certs)) all ≡ with_certs ls (all ++ certs ∷ [])
with_last [] all certs l h = absurd (cc)
with_last (x ∷ ls) [] certs l h =
    let same : l ≡ x = cc in ap₂ (λ (y : Line) (ys : List Line). line_with y certs ∷ ys) same (sym (with_none ls))
with_last (x ∷ ls) (a ∷ all) certs l h = ap (λ (ys : List Line). line_with x a ∷ ys) (with_last ls all certs l h)

-- a turn, where certificates are put at the place behind those that are left
pub with_put : (ls new : List Line) (all : List (List Cert)) (certs : List Cert) (k : ℕ) → k ≡ length all → k < length ls → ((l : Line) → slice_get ls k ≡ Some l → new ≡ set ls k (line_with l certs)) → with_certs new all ≡ with_certs ls (all ++ certs ∷ [])
with_put ls new all certs k e within put =
    let l = get_or ls k (bare_line (type_or_unit None)) in
    let at : slice_get ls k ≡ Some l = slice_get-get_or ls k (bare_line (type_or_unit None)) within in
    ap (λ (xs : List Line). with_certs xs all) (put l at ∙ ap (λ m. set ls m (line_with l certs)) e)
    ∙ with_last ls all certs l (ap (slice_get ls) (sym e) ∙ at)

-- one line with certificates in place of its own, as the code writes it
pub put_line : (ls : List DerivedNode) (k : ℕ) (x : DerivedNode) (certs : List CodeCert) (l : Line) → slice_get (lines_view ls) k ≡ Some l → lines_view (set ls k (record { of = (get_or ls k x).of; certs = certs })) ≡ set (lines_view ls) k (line_with l (certs_view certs))
put_line ls k x certs l h =
    let own : line_view (get_or ls k x) ≡ l = sym (get_or-map line_view ls k x) ∙ get_or_from_slice_get (lines_view ls) k l (line_view x) h in
    map-set line_view ls k (record { of = (get_or ls k x).of; certs = certs }) ∙ ap (λ (m : Line). set (lines_view ls) k (line_with m (certs_view certs))) own

module _ (p : Program) where
  pub with_lines : (n : ℕ) (ds : List Node) (all : List (List Cert)) (certs : ℕ → List Cert) → ((k : ℕ) → certs (n + k) ≡ certs_in all k) → with_certs (lines_from p no_certs n ds) all ≡ lines_from p certs n ds
  with_lines n [] all certs h = refl
  with_lines n (d ∷ ds) [] certs h =
      let here : n ≡ n + 0 = omega arith in
      let none : [] ≡ certs n = sym (ap certs here ∙ h 0) in
      ap₂ (λ (x : List Cert) (ys : List Line). found_line p n x ∷ ys) none (sym (with_none (lines_from p no_certs (suc n) ds)) ∙ with_lines (suc n) ds [] certs (λ k. ap certs (next k) ∙ h (suc k)))
    where
      next : (k : ℕ) → suc n + k ≡ n + suc k
      next k = omega arith
  with_lines n (d ∷ ds) (a ∷ all) certs h =
      let here : n ≡ n + 0 = omega arith in
      let own : a ≡ certs n = sym (ap certs here ∙ h 0) in
      ap₂ (λ (x : List Cert) (ys : List Line). found_line p n x ∷ ys) own (with_lines (suc n) ds all certs (λ k. ap certs (next k) ∙ h (suc k)))
    where
      next : (k : ℕ) → suc n + k ≡ n + suc k
      next k = omega arith

  module _ (vars : List VarLine) (forms : ℕ → Form) where
    pub made_more : (k : ℕ) (all : List (List Cert)) (certs : List Cert) → AreMadeTo p vars forms k all → HasCerts p vars forms k certs → AreMadeTo p vars forms (k + 1) (all ++ certs ∷ [])
    made_more k all certs made own = record {
      count = length-append all (certs ∷ []) ∙ ap (λ m. m + 1) made.count;
      certs = below_more (λ n. HasCerts p vars forms n (certs_in (all ++ certs ∷ []) n)) k
          (λ n l. subst (HasCerts p vars forms n) (sym (get_or_append_left all (certs ∷ []) [] n (subst (λ m. n < m) (sym made.count) l))) (made.certs n l))
          (subst (HasCerts p vars forms k) (sym (get_or-append_seam all certs [] []) ∙ ap (λ m. get_or (all ++ certs ∷ []) m []) made.count) own);
    }

    pub all_made : (all : List (List Cert)) → AreMade p vars forms all → CertsMade p vars forms (certs_in all)
    all_made all made n c g at of = made.certs n (slice_get_within p.nodes n c at) c g at of

    pub is_derived : (d : Derivation) (all : List (List Cert)) → d ≡ derivation_with p vars no_certs → AreMade p vars forms all → IsDerived p vars forms (record { vars = vars; lines = with_certs d.lines all })
    is_derived d all is made = record {
      certs = certs_in all;
      made = all_made all made;
      is = ap (λ (ls : List Line). record { vars = vars; lines = ls })
          (ap (λ (e : Derivation). with_certs e.lines all) is ∙ with_lines 0 p.nodes all (certs_in all) (λ k. ap (certs_in all) (start k)));
    }
      where
        start : (k : ℕ) → 0 + k ≡ k
        start k = omega arith
