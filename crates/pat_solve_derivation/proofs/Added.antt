-- Certificates that are made one after another.
use Rattle.std.proofs.Common.{◌≡◌, ℕ, List, [], ◌∷◌, ◌++◌, Option, Some, None, option_map, append_assoc, sym, ap, ◌∙◌, subst}
use Rattle.std.specs.Prelude.{IsTrue}
use Rattle.std.proofs.lemmas.List.{append-nil, map-append}
use Rattle.pat_words_spec.specs.Patterns.{Pat, prod_of}
use Rattle.pat_semantics_spec.specs.Programs.{Polarity, Sending, Receiving}
use Rattle.pat_derivation_spec.specs.Types.{MailboxType}
use Rattle.pat_inclusion_spec.specs.Values.{Scope, plainly_replaced}
use Rattle.pat_inclusion_spec.specs.Certificates.{Cert, Inclusion, is_trivial}
use Rattle.pat_certificate_checks.proofs.Arms.{arm_of_itself}
use Rattle.pat_derivation_spec.specs.Demands.{Demand, Divide, same_interface, one_interface, fit_by, join_by, inclusions_of}
use Rattle.pat_solve_spec.specs.Laws.{IsWritten}
use Rattle.pat_solve_spec.specs.Derived.{Form, AreCertsFor, all_made, made_none, made_next}
use Rattle.pat_derivations.specs.declared.data.Cert.{Cert as CodeCert}
use Rattle.pat_derivations.specs.Views.{cert_view, certs_view}
use Rattle.pat_solve_derivation.specs.certificates.Making.{IsCertIf, Adds}

module _ (s : Scope) (forms : ℕ → Form) where
  pub certs_both : (qs rs : List Inclusion) (certs more : List Cert) → AreCertsFor s forms qs certs → AreCertsFor s forms rs more → AreCertsFor s forms (qs ++ rs) (certs ++ more)
  certs_both qs rs certs more all_made m = m
  certs_both qs rs certs more (made_none {q = q} {qs = left} {certs = own} t rest) m = made_none t (certs_both left rs own more rest m)
  certs_both qs rs certs more (made_next {q = q} {qs = left} {cert = cert} {certs = own} i f at c rest) m = made_next i f at c (certs_both left rs own more rest m)

  -- none for an inclusion that is trivial
  pub adds_none : (q : Inclusion) (i : ℕ) (certs : List CodeCert) (o : Option CodeCert) → o ≡ None → IsCertIf s i q.left q.right (forms i) (option_map cert_view o) → Adds s forms (q ∷ []) certs certs
  adds_none q i certs o e h = record {
    certs = [];
    are = made_none (subst (λ (x : Option CodeCert). IsCertIf s i q.left q.right (forms i) (option_map cert_view x)) e h) all_made;
    is = sym (append-nil (certs_view certs));
  }

  -- one for another
  pub adds_one : (q : Inclusion) (i : ℕ) (certs new : List CodeCert) (o : Option CodeCert) (cert : CodeCert) → o ≡ Some cert → q.interface ≡ Some i → IsCertIf s i q.left q.right (forms i) (option_map cert_view o) → new ≡ certs ++ cert ∷ [] → Adds s forms (q ∷ []) certs new
  adds_one q i certs new o cert e at h is =
      let own = subst (λ (x : Option CodeCert). IsCertIf s i q.left q.right (forms i) (option_map cert_view x)) e h in
      record {
        certs = cert_view cert ∷ [];
        are = made_next i own.0 at own.1 all_made;
        is = ap certs_view is ∙ map-append cert_view certs (cert ∷ []);
      }

  pub adds_nothing : (qs : List Inclusion) (certs : List CodeCert) → [] ≡ qs → Adds s forms qs certs certs
  adds_nothing qs certs e = record { certs = []; are = subst (λ (x : List Inclusion). AreCertsFor s forms x []) e all_made; is = sym (append-nil (certs_view certs)) }

  pub adds_no_more : (qs : List Inclusion) (certs : List CodeCert) → AreCertsFor s forms qs [] → Adds s forms qs certs certs
  adds_no_more qs certs h = record { certs = []; are = h; is = sym (append-nil (certs_view certs)) }

  -- none for patterns that are the same
  trivial_same : (e f : Pat) → e ≡ f → IsTrue (is_trivial s e f)
  trivial_same e f q = subst (λ g. IsTrue (is_trivial s e g)) q (arm_of_itself (plainly_replaced s e))

  fit_same : (q : Polarity) (o : Option ℕ) (e f : Pat) → e ≡ f → AreCertsFor s forms (fit_by q o e f ∷ []) []
  fit_same Sending o e f h = made_none (trivial_same f e (sym h)) all_made
  fit_same Receiving o e f h = made_none (trivial_same e f h) all_made

  join_same : (q r t : Polarity) (o : Option ℕ) (e1 e2 e : Pat) → q ≡ Sending → r ≡ Sending → e ≡ prod_of e1 e2 → AreCertsFor s forms (join_by q r t o e1 e2 e) []
  join_same Sending Sending Sending o e1 e2 e a b h = made_none (trivial_same (prod_of e1 e2) e (sym h)) all_made
  join_same Sending Sending Receiving o e1 e2 e a b h = all_made
  join_same Sending Receiving t o e1 e2 e a b h = cc
  join_same Receiving r t o e1 e2 e a b h = cc

  -- none where one part of a let alone has the variable, or both send
  pub none_for_body : (d : Demand) (a c : Option MailboxType) → d ≡ Divide a None c → IsWritten d → AreCertsFor s forms (inclusions_of d) []
  none_for_body d a c is h = subst (λ x. AreCertsFor s forms (inclusions_of x) []) (sym is) (go a c (subst IsWritten is h))
    where
      go : (a c : Option MailboxType) → IsWritten (Divide a None c) → AreCertsFor s forms (inclusions_of (Divide a None c)) []
      go None None h = all_made
      go None (Some c) h = all_made
      go (Some a) None h = all_made
      go (Some a) (Some c) h = fit_same c.polarity (same_interface a.interface c.interface) a.pattern c.pattern h

  pub none_for_bound : (d : Demand) (a : Option MailboxType) (b : MailboxType) → d ≡ Divide a (Some b) None → IsWritten d → AreCertsFor s forms (inclusions_of d) []
  none_for_bound d a b is h = subst (λ x. AreCertsFor s forms (inclusions_of x) []) (sym is) (go a (subst IsWritten is h))
    where
      go : (a : Option MailboxType) → IsWritten (Divide a (Some b) None) → AreCertsFor s forms (inclusions_of (Divide a (Some b) None)) []
      go None h = all_made
      go (Some a) h = fit_same b.polarity (same_interface a.interface b.interface) a.pattern b.pattern h

  pub none_for_both : (d : Demand) (a : Option MailboxType) (b c : MailboxType) → d ≡ Divide a (Some b) (Some c) → b.polarity ≡ Sending → c.polarity ≡ Sending → IsWritten d → AreCertsFor s forms (inclusions_of d) []
  none_for_both d a b c is q r h = subst (λ x. AreCertsFor s forms (inclusions_of x) []) (sym is) (go a (subst IsWritten is h))
    where
      go : (a : Option MailboxType) → IsWritten (Divide a (Some b) (Some c)) → AreCertsFor s forms (inclusions_of (Divide a (Some b) (Some c))) []
      go None h = all_made
      go (Some a) h =
          join_same b.polarity c.polarity a.polarity (one_interface b.interface c.interface a.interface) b.pattern c.pattern a.pattern q r (h q r)

  -- none for a pattern in itself
  pub adds_reflexive : (i : ℕ) (e : Pat) (qs : List Inclusion) (certs : List CodeCert) → record { interface = Some i; left = e; right = e } ∷ [] ≡ qs → Adds s forms qs certs certs
  adds_reflexive i e qs certs q =
      subst (λ (x : List Inclusion). Adds s forms x certs certs) q
      (record { certs = []; are = made_none (arm_of_itself (plainly_replaced s e)) all_made; is = sym (append-nil (certs_view certs)) })

  -- certificates for what is left make those for the whole
  abbrev pub Completes : List Inclusion → List Inclusion → List CodeCert → Type 0
  Completes whole left certs = (more : List Cert) → AreCertsFor s forms left more → AreCertsFor s forms whole (certs_view certs ++ more)

  pub completes_more : (whole qs left : List Inclusion) (old new : List CodeCert) → Completes whole (qs ++ left) old → Adds s forms qs old new → Completes whole left new
  completes_more whole qs left old new h a more m =
      subst (AreCertsFor s forms whole) (sym (append_assoc (certs_view old) a.certs more) ∙ ap (λ (x : List Cert). x ++ more) (sym a.is))
      (h (a.certs ++ more) (certs_both qs left a.certs more a.are m))

  pub completes_all : (whole : List Inclusion) (certs : List CodeCert) → Completes whole [] certs → AreCertsFor s forms whole (certs_view certs)
  completes_all whole certs h = subst (AreCertsFor s forms whole) (append-nil (certs_view certs)) (h [] all_made)
