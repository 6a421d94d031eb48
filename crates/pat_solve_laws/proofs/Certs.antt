-- What a node needs is shown by the values, and the certificates that are made for it are taken.
use Rattle.std.proofs.Common.{◌≡◌, ℕ, true, false, not, ◌&&◌, List, Some, None, ◌⊎◌, inl, inr, refl, sym, ap, ◌∙◌, subst}
use Rattle.std.specs.Prelude.{IsTrue}
use Rattle.std.specs.List.{AllByRecursion}
use Rattle.std.proofs.lemmas.Bool.{and_from}
use Rattle.pat_words_spec.specs.Patterns.{Pat, Prod, prod_of, subst_of}
use Rattle.pat_semantics_laws.proofs.Lists.{is_in_all}
use Rattle.pat_inclusion_spec.specs.CutWords.{cuts_lie}
use Rattle.pat_inclusion_spec.specs.Points.{grid_fits}
use Rattle.pat_inclusion_spec.specs.Values.{VarLine, Scope, pattern_of, is_formed}
use Rattle.pat_inclusion_spec.specs.Certificates.{Cert, CoverCert, GridCert, Inclusion, is_arm, is_trivial, is_large_enough, cert_shows, is_shown_in, is_shown, are_shown}
use Rattle.pat_inclusion_laws.proofs.Shown.{ValuesFit}
use Rattle.pat_inclusion_laws.proofs.Taking.{trivial_takes_none, other_takes_next}
use Rattle.pat_infer_spec.specs.Constraints.{Constraint}
use Rattle.pat_infer_spec.specs.Inclusions.{IsShown}
use Rattle.pat_infer_laws.proofs.Gathering.{all_map}
use Rattle.pat_infer_laws.proofs.Shown.{subst_prod}
use Rattle.pat_solve_spec.specs.Derived.{Form, Patterns, Grids, HasForm, IsCovered, SidesShown, ConstraintShown, IsCertOf, AreCertsFor, all_made, made_none, made_next}
use Rattle.pat_solve_spec.specs.Laws.{IsSound}
use Rattle.pat_solve_laws.proofs.Values.{plain, patterns_same, grids_same}

-- a product and its simplified form are shown alike
pub shown_prod : (cs : List Constraint) (v : ℕ → Pat) (i : ℕ) (e f g : Pat) → IsShown cs v i (Prod e f) g → IsShown cs v i (prod_of e f) g
shown_prod cs v i e f g (inl t) = inl (subst (λ x. is_arm x (subst_of v g) ≡ true) (sym (subst_prod v e f)) t)
shown_prod cs v i e f g (inr (c, inside, of, l, r)) = inr (c, inside, of, subst_prod v e f ∙ l, r)

-- an inclusion is trivial, or its sides are shown
abbrev pub SidesFor : Scope → (ℕ → Form) → ℕ → Pat → Pat → Type 0
SidesFor s forms i e f = IsTrue (is_trivial s e f) ⊎ SidesShown s i e f (forms i)

module _ (s : Scope) (forms : ℕ → Form) (formed : AllByRecursion (λ (v : VarLine). HasForm v.value (forms v.interface)) s.vars) (fit : ValuesFit s) where
  -- what shows the sides of a constraint shows the sides of an inclusion that is the same under the values
  listed_shows : (i : ℕ) (e l f : Pat) (form : Form) → forms i ≡ form → is_formed s i e ≡ true → is_formed s i l ≡ true → subst_of (plain s fit) e ≡ subst_of (plain s fit) l → SidesShown s i l f form → SidesShown s i e f form
  listed_shows i e l f Patterns is a b same h =
      let left : subst_of (pattern_of s) e ≡ subst_of (pattern_of s) l = sym (patterns_same s fit forms formed i is e a) ∙ same ∙ patterns_same s fit forms formed i is l b in
      subst (λ x. IsCovered (s.tags i) x (subst_of (pattern_of s) f)) (sym left) h
  listed_shows i e l f (Grids k) is a b same h =
      let left : subst_of (pattern_of s) e ≡ subst_of (pattern_of s) l = sym (grids_same s fit forms formed i k is e a) ∙ ap (subst_of (pattern_of s)) same ∙ grids_same s fit forms formed i k is l b in
      subst (λ x. (grid_fits k (s.tags i) && (is_large_enough s k f && cuts_lie k (s.tags i) x (subst_of (pattern_of s) f))) ≡ true) (sym left) h

  module _ (cs : List Constraint) (sides : AllByRecursion (λ (c : Constraint). is_formed s c.interface c.left ≡ true) cs) (shown : AllByRecursion (ConstraintShown s forms) cs) where
    one_sides : (q : Inclusion) → IsSound s (IsShown cs (plain s fit)) q → IsSound s (SidesFor s forms) q
    one_sides q (i, at, a, b, inl t) = (i, at, a, b, inl t)
    one_sides q (i, at, a, b, inr (c, inside, of, l, same)) =
        let side = is_in_all (λ (d : Constraint). is_formed s d.interface d.left ≡ true) cs c sides inside in
        let holds = is_in_all (ConstraintShown s forms) cs c shown inside in (
          i,
          at,
          a,
          b,
          inr (subst (λ f. SidesShown s i q.left f (forms i)) (sym same)
              (listed_shows i q.left c.left c.right (forms i) refl a (subst (λ j. is_formed s j c.left ≡ true) of side) l
              (subst (λ j. SidesShown s j c.left c.right (forms j)) of holds))),
        )

    pub sides_all : (qs : List Inclusion) → AllByRecursion (IsSound s (IsShown cs (plain s fit))) qs → AllByRecursion (IsSound s (SidesFor s forms)) qs
    sides_all qs h = all_map (IsSound s (IsShown cs (plain s fit))) (IsSound s (SidesFor s forms)) one_sides qs h

-- ---- certificates

module _ (s : Scope) (forms : ℕ → Form) where
  -- a certificate of an inclusion whose sides are shown shows it
  cert_of_shows : (i : ℕ) (e f : Pat) (form : Form) (cert : Cert) → IsCertOf s i e f form cert → SidesShown s i e f form → cert_shows s i e f cert ≡ true
  cert_of_shows i e f Patterns (CoverCert entries) h k = h
  cert_of_shows i e f Patterns (GridCert b) h k = absurd h
  cert_of_shows i e f (Grids k) (CoverCert entries) h m = absurd h
  cert_of_shows i e f (Grids k) (GridCert b) h m = subst (λ j. cert_shows s i e f (GridCert j) ≡ true) (sym h) m

  none_shows : (q : Inclusion) → IsSound s (SidesFor s forms) q → is_trivial s q.left q.right ≡ true → is_shown s q None ≡ true
  none_shows q (i, at, a, b, r) t =
      ap (λ o. is_shown_in s o q.left q.right None) at
      ∙ and_from (is_formed s i q.left && is_formed s i q.right) (is_trivial s q.left q.right) (and_from (is_formed s i q.left) (is_formed s i q.right) a b) t

  next_shows : (q : Inclusion) (cert : Cert) (j : ℕ) → IsSound s (SidesFor s forms) q → is_trivial s q.left q.right ≡ false → q.interface ≡ Some j → IsCertOf s j q.left q.right (forms j) cert → is_shown s q (Some cert) ≡ true
  next_shows q cert j (i, at, a, b, r) t there h =
      let same : i ≡ j = let e : Some i ≡ Some j = sym at ∙ there in cc in
      ap (λ o. is_shown_in s o q.left q.right (Some cert)) at
      ∙ and_from (is_formed s i q.left && is_formed s i q.right) (not (is_trivial s q.left q.right) && cert_shows s i q.left q.right cert) (and_from (is_formed s i q.left) (is_formed s i q.right) a b)
      (and_from (not (is_trivial s q.left q.right)) (cert_shows s i q.left q.right cert) (ap not t)
      (cert_of_shows i q.left q.right (forms i) cert (subst (λ k. IsCertOf s k q.left q.right (forms k) cert) (sym same) h) (by r)))
    where
      by : SidesFor s forms i q.left q.right → SidesShown s i q.left q.right (forms i)
      by (inl k) = let x : true ≡ false = sym k ∙ t in cc
      by (inr k) = k

  -- the certificates that are made show all that is needed
  pub certs_made : (qs : List Inclusion) (certs : List Cert) → AllByRecursion (IsSound s (SidesFor s forms)) qs → AreCertsFor s forms qs certs → are_shown s qs certs ≡ true
  certs_made qs certs h all_made = refl
  certs_made qs certs h (made_none {q = q} {qs = more} {certs = left} t rest) =
      trivial_takes_none s q more left t ∙ and_from (is_shown s q None) (are_shown s more left) (none_shows q h.0 t) (certs_made more left h.1 rest)
  certs_made qs certs h (made_next {q = q} {qs = more} {cert = cert} {certs = left} j f at c rest) =
      (other_takes_next s q more cert left f).1 ∙ and_from (is_shown s q (Some cert)) (are_shown s more left) (next_shows q cert j h.0 f at c) (certs_made more left h.1 rest)
