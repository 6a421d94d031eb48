-- Demands that are settled ask nothing.
use Rattle.std.proofs.Common.{◌≡◌, ℕ, true, ◌&&◌, List, ◌∷◌, ◌++◌, Option, Some, None, refl, sym, ap, ap₂, ◌∙◌}
use Rattle.std.specs.Prelude.{nat_eq}
use Rattle.std.specs.List.{list_all, flat_map}
use Rattle.std.proofs.lemmas.Bool.{cond-true, eq-eqb}
use Rattle.pat_words_spec.specs.Patterns.{Pat}
use Rattle.pat_semantics_spec.specs.Programs.{Polarity, Sending, Receiving}
use Rattle.pat_type_system_spec.specs.Types.{MailboxType}
use Rattle.pat_inclusion_spec.specs.Values.{Scope, is_formed, plainly_replaced}
use Rattle.pat_inclusion_spec.specs.Certificates.{Cert, Inclusion, is_trivial, are_shown}
use Rattle.pat_inclusion_laws.proofs.Taking.{trivial_takes_none}
use Rattle.pat_certificate_checks.proofs.Arms.{arm_of_itself}
use Rattle.pat_derivation_spec.specs.Demands.{Demand, Pass, Divide, There, Name, is_used_well, is_dropped_well, inclusions_of, same_interface, fit_by, fit_inclusion}
use Rattle.pat_judge_nodes.specs.uses.Settled.{IsKept, IsSettled, FollowSettled, none_before, settled_before}

-- the demand may be left out
pub record AsksNothing (s : Scope) (d : Demand) : Type 0 where
  pub used : is_used_well d ≡ true
  pub dropped : is_dropped_well s d ≡ true
  pub shown : (more : List Inclusion) (certs : List Cert) → are_shown s (inclusions_of d ++ more) certs ≡ are_shown s more certs

module _ (s : Scope) where
  in_itself : (i : ℕ) (e : Pat) → is_formed s i e ≡ true → (more : List Inclusion) (certs : List Cert) → are_shown s (record { interface = Some i; left = e; right = e } ∷ more) certs ≡ are_shown s more certs
  in_itself i e formed more certs =
      let trivial : is_trivial s e e ≡ true = arm_of_itself (plainly_replaced s e) in
      trivial_takes_none s (record { interface = Some i; left = e; right = e }) more certs trivial
      ∙ ap (λ b. b && are_shown s more certs) (ap₂ (λ a b. (a && a) && b) formed trivial)

  fit_in_itself : (q : Polarity) (i : ℕ) (e : Pat) → is_formed s i e ≡ true → (more : List Inclusion) (certs : List Cert) → are_shown s (fit_by q (Some i) e e ∷ more) certs ≡ are_shown s more certs
  fit_in_itself Sending i e = in_itself i e
  fit_in_itself Receiving i e = in_itself i e

  same_self : (i j : ℕ) → i ≡ j → same_interface i j ≡ Some i
  same_self i j e = cond-true (nat_eq i j) (Some i) None (eq-eqb i j e)

  kept : (a b : MailboxType) → IsKept s a b → (more : List Inclusion) (certs : List Cert) → are_shown s (fit_inclusion a b ∷ more) certs ≡ are_shown s more certs
  kept a b h more certs =
      sym (ap₂ (λ (o : Option ℕ) (f : Pat). are_shown s (fit_by b.polarity o a.pattern f ∷ more) certs) (sym (same_self a.interface b.interface h.interface)) h.pattern)
      ∙ fit_in_itself b.polarity a.interface a.pattern h.formed more certs

  asks_nothing : (d : Demand) → IsSettled s d → AsksNothing s d
  asks_nothing (Pass (Some a) (Some b)) h = record { used = h.fits; dropped = refl; shown = kept a b h }
  asks_nothing (Pass (Some a) None) h = absurd h
  asks_nothing (Pass None b) h = absurd h
  asks_nothing (Divide (Some a) (Some b) None) h = record { used = h.fits; dropped = refl; shown = kept a b h }
  asks_nothing (Divide (Some a) None (Some c)) h = record { used = h.fits; dropped = refl; shown = kept a c h }
  asks_nothing (Divide (Some a) (Some b) (Some c)) h = absurd h
  asks_nothing (Divide (Some a) None None) h = absurd h
  asks_nothing (Divide None b c) h = absurd h
  asks_nothing (There a b) h = absurd h
  asks_nothing (Name t b) h = absurd h

  pub used_alike : (rest all : List Demand) → FollowSettled s rest all → list_all is_used_well rest ≡ list_all is_used_well all
  used_alike rest all none_before = refl
  used_alike rest all (settled_before {d = d} {ds = ds} own h) =
      used_alike rest ds h ∙ ap (λ b. b && list_all is_used_well ds) (sym (asks_nothing d own).used)

  pub dropped_alike : (rest all : List Demand) → FollowSettled s rest all → list_all (is_dropped_well s) rest ≡ list_all (is_dropped_well s) all
  dropped_alike rest all none_before = refl
  dropped_alike rest all (settled_before {d = d} {ds = ds} own h) =
      dropped_alike rest ds h ∙ ap (λ b. b && list_all (is_dropped_well s) ds) (sym (asks_nothing d own).dropped)

  pub shown_alike : (rest all : List Demand) (certs : List Cert) → FollowSettled s rest all → are_shown s (flat_map inclusions_of rest) certs ≡ are_shown s (flat_map inclusions_of all) certs
  shown_alike rest all certs none_before = refl
  shown_alike rest all certs (settled_before {d = d} {ds = ds} own h) =
      shown_alike rest ds certs h ∙ sym ((asks_nothing d own).shown (flat_map inclusions_of ds) certs)
