-- What is left of certificates once an inclusion is shown.
use Rattle.std.proofs.Common.{◌≡◌, ℕ, Bool, true, false, ◌&&◌, ◌||◌, List, [], ◌∷◌, ◌++◌, Option, Some, None, length, drop, refl, sym, ap, ap₂, ◌∙◌, subst}
use Rattle.std.specs.Prelude.{not, nat_eq}
use Rattle.std.proofs.Math.Dec.{eqb-suc-zero}
use Rattle.std.proofs.lemmas.Bool.{and_parts}
use Rattle.pat_words_spec.specs.Patterns.{Pat, pat_eq}
use Rattle.pat_words_laws.proofs.PatternLaws.{pat_eq_same}
use Rattle.pat_inclusion_spec.specs.Values.{Scope, is_formed, plainly_replaced}
use Rattle.pat_inclusion_spec.specs.Certificates.{Cert, Inclusion, is_trivial, cert_shows, shows, is_shown, is_shown_in, are_shown}
use Rattle.pat_inclusion_laws.proofs.Taking.{trivial_takes_none, other_takes_next}
use Rattle.pat_certificate_checks.proofs.Arms.{arm_of_itself}
use Rattle.pat_certificate_checks.specs.Shown.{Leaves, but_first, left_by, Takes}
use Rattle.pat_derivations.specs.declared.data.Cert.{Cert as CodeCert}
use Rattle.pat_derivations.specs.Views.{certs_view}
use Rattle.pat_certificate_checks.specs.declared.showing.Showing.{Showing}
use Rattle.pat_certificate_checks.specs.declared.showing.Showing.TheVariants as outcome

abbrev one : Option ℕ → Pat → Pat → Inclusion
one i e f = record { interface = i; left = e; right = f }

-- an inclusion that is shown in neither way
never : (s : Scope) (q : Inclusion) (certs : List Cert) → ((o : Option Cert) → is_shown s q o ≡ false) → (more : List Inclusion) → are_shown s (q ∷ more) certs ≡ false
never s q [] h more = ap (λ b. b && are_shown s more []) (h None)
never s q (cert ∷ certs) h more =
    ap₂ (λ a b. (a && are_shown s more (cert ∷ certs)) || (b && are_shown s more certs)) (h None) (h (Some cert))

pub no_interface : (s : Scope) (e f : Pat) (certs : List Cert) → Takes s None e f certs outcome.NotShown
no_interface s e f certs = never s (one None e f) certs (λ o. refl)

pub not_formed : (s : Scope) (i : ℕ) (e f : Pat) (certs : List Cert) → (is_formed s i e && is_formed s i f) ≡ false → Takes s (Some i) e f certs outcome.NotShown
not_formed s i e f certs h = never s (one (Some i) e f) certs (λ o. ap (λ b. b && shows s i e f o) h)

module _ (s : Scope) (i : ℕ) (e f : Pat) (left : is_formed s i e ≡ true) (right : is_formed s i f ≡ true) where
  formed : (is_formed s i e && is_formed s i f) ≡ true
  formed = ap₂ (λ a b. a && b) left right

  pub trivially : (certs : List Cert) → is_trivial s e f ≡ true → Takes s (Some i) e f certs outcome.Trivially
  trivially certs t more =
      trivial_takes_none s (one (Some i) e f) more certs t
      ∙ ap (λ b. b && are_shown s more certs) (ap₂ (λ a b. a && b) formed t)

  shown_by : (cert : Cert) → is_trivial s e f ≡ false → is_shown s (one (Some i) e f) (Some cert) ≡ cert_shows s i e f cert
  shown_by cert t = ap₂ (λ a b. a && (not b && cert_shows s i e f cert)) formed t

  pub no_more : is_trivial s e f ≡ false → Takes s (Some i) e f [] outcome.NotShown
  no_more t more = ap (λ b. (b && are_shown s more [])) (ap₂ (λ a b. a && b) formed t)

  pub by_next : (cert : Cert) (certs : List Cert) → is_trivial s e f ≡ false → cert_shows s i e f cert ≡ true → Takes s (Some i) e f (cert ∷ certs) outcome.ByNext
  by_next cert certs t c more =
      (other_takes_next s (one (Some i) e f) more cert certs t).1 ∙ ap (λ b. b && are_shown s more certs) (shown_by cert t ∙ c)

  pub next_fails : (cert : Cert) (certs : List Cert) → is_trivial s e f ≡ false → cert_shows s i e f cert ≡ false → Takes s (Some i) e f (cert ∷ certs) outcome.NotShown
  next_fails cert certs t c more =
      (other_takes_next s (one (Some i) e f) more cert certs t).1 ∙ ap (λ b. b && are_shown s more certs) (shown_by cert t ∙ c)

-- ---- a pattern in itself

pub leaves_reflexive : (s : Scope) (i : ℕ) (e : Pat) (certs : List Cert) → is_formed s i e ≡ true → Leaves s (one (Some i) e e ∷ []) certs (Some certs)
leaves_reflexive s i e certs f = trivially s i e e f f certs (arm_of_itself (plainly_replaced s e))

pub not_reflexive : (s : Scope) (i : ℕ) (e : Pat) (certs : List Cert) → is_formed s i e ≡ false → Leaves s (one (Some i) e e ∷ []) certs None
not_reflexive s i e certs f = not_formed s i e e certs (ap₂ (λ a b. a && b) f f)

-- so where they are the same
pub same_trivially : (s : Scope) (i : ℕ) (e f : Pat) (certs : List Cert) → (pat_eq e f && is_formed s i e) ≡ true → Takes s (Some i) e f certs outcome.Trivially
same_trivially s i e f certs h =
    let both = and_parts (pat_eq e f) (is_formed s i e) h in
    subst (λ x. Takes s (Some i) e x certs outcome.Trivially) (pat_eq_same e f both.0) (leaves_reflexive s i e certs both.1)

-- ---- demands

pub leaves_all : (s : Scope) (qs : List Inclusion) (certs : List Cert) → [] ≡ qs → Leaves s qs certs (Some certs)
leaves_all s qs certs e more = ap (λ xs. are_shown s (xs ++ more) certs) (sym e)

pub leaves_by : (s : Scope) (q : Inclusion) (qs : List Inclusion) (certs : List Cert) (how : Showing) → q ∷ [] ≡ qs → Takes s q.interface q.left q.right certs how → Leaves s qs certs (left_by how certs)
leaves_by s q qs certs how e t = subst (λ xs. Leaves s xs certs (left_by how certs)) e t

but_first_view : (certs : List CodeCert) → but_first (certs_view certs) ≡ certs_view (drop 1 certs)
but_first_view [] = refl
but_first_view (cert ∷ certs) = refl

-- by the next certificate, which then is taken
pub leaves_rest : (s : Scope) (q : Inclusion) (qs : List Inclusion) (certs : List CodeCert) → q ∷ [] ≡ qs → Takes s q.interface q.left q.right (certs_view certs) outcome.ByNext → Leaves s qs (certs_view certs) (Some (certs_view (drop 1 certs)))
leaves_rest s q qs certs e t =
    subst (λ rest. Leaves s qs (certs_view certs) (Some rest)) (but_first_view certs) (leaves_by s q qs (certs_view certs) outcome.ByNext e t)

pub none_left : (s : Scope) (certs : List CodeCert) → nat_eq (length certs) 0 ≡ are_shown s [] (certs_view certs)
none_left s [] = refl
none_left s (cert ∷ certs) = eqb-suc-zero (length certs)
