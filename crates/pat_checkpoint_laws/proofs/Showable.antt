-- What can be shown has a certificate, or needs none.
use Rattle.std.proofs.Common.{◌≡◌, ℕ, Bool, true, false, not, ◌&&◌, List, [], ◌∷◌, Option, Some, None, refl, sym, ap, ◌∙◌, subst, ⊎_elim}
use Rattle.std.specs.List.{AllByRecursion}
use Rattle.std.proofs.lemmas.Bool.{and_from, cases_Bool}
use Rattle.pat_inclusion_spec.specs.Values.{Scope, is_formed}
use Rattle.pat_inclusion_spec.specs.Certificates.{Cert, CoverCert, GridCert, Inclusion, is_trivial, cert_shows, shows, is_shown_in, is_shown}
use Rattle.pat_checkpoint_spec.specs.Written.{IsShowable, by_itself, by_cover, by_grid, CanBeShown, each_certified, NeedsFormed}

some_same : {A : Type 0} (x y : A) → Some x ≡ Some y → x ≡ y
some_same x y h = cc

module _ (s : Scope) (bound : ℕ → Option ℕ) where
  -- with a certificate where it isn't trivial
  shown_with : (q : Inclusion) (i : ℕ) (k : Cert) → q.interface ≡ Some i → is_formed s i q.left ≡ true → is_formed s i q.right ≡ true → is_trivial s q.left q.right ≡ false → cert_shows s i q.left q.right k ≡ true → is_shown s q (Some k) ≡ true
  shown_with q i k is left right off shown =
      ap (λ o. is_shown_in s o q.left q.right (Some k)) is
      ∙ and_from (is_formed s i q.left && is_formed s i q.right) (shows s i q.left q.right (Some k)) (and_from (is_formed s i q.left) (is_formed s i q.right) left right)
      (and_from (not (is_trivial s q.left q.right)) (cert_shows s i q.left q.right k) (ap not off) shown)

  shown_alone : (q : Inclusion) (i : ℕ) → q.interface ≡ Some i → is_formed s i q.left ≡ true → is_formed s i q.right ≡ true → is_trivial s q.left q.right ≡ true → is_shown s q None ≡ true
  shown_alone q i is left right on =
      ap (λ o. is_shown_in s o q.left q.right None) is
      ∙ and_from (is_formed s i q.left && is_formed s i q.right) (is_trivial s q.left q.right) (and_from (is_formed s i q.left) (is_formed s i q.right) left right) on

  pub showable_shown : (q : Inclusion) (i : ℕ) → q.interface ≡ Some i → is_formed s i q.left ≡ true → is_formed s i q.right ≡ true → IsShowable s bound q → (k : Option Cert) × (is_shown s q k ≡ true)
  showable_shown q i is left right h =
      ⊎_elim
      (λ on. (None, shown_alone q i is left right on))
      (λ off. go off h)
      (cases_Bool (is_trivial s q.left q.right))
    where
      clash : {b : Bool} → b ≡ true → b ≡ false → ⊥
      clash p q = cc

      go : is_trivial s q.left q.right ≡ false → IsShowable s bound q → (k : Option Cert) × (is_shown s q k ≡ true)
      go off (by_itself on) = absurd (clash on off)
      go off (by_cover j entries at shown) =
          let same : j ≡ i = some_same j i (sym at ∙ is) in
          (Some (CoverCert entries), shown_with q i (CoverCert entries) is left right off (subst (λ n. cert_shows s n q.left q.right (CoverCert entries) ≡ true) same shown))
      go off (by_grid j k at there shown) =
          let same : j ≡ i = some_same j i (sym at ∙ is) in
          (Some (GridCert k), shown_with q i (GridCert k) is left right off (subst (λ n. cert_shows s n q.left q.right (GridCert k) ≡ true) same shown))

  -- each line that needs something has a certificate
  pub all_showable : (qs : List (Option Inclusion)) → NeedsFormed s qs → AllByRecursion (CanBeShown s bound) qs → (ks : List (Option Cert)) × (each_certified s qs ks ≡ true)
  all_showable [] formed h = ([], refl)
  all_showable (None ∷ qs) formed h = let r = all_showable qs formed.1 h.1 in (None ∷ r.0, r.1)
  all_showable (Some q ∷ qs) formed h =
      let f = formed.0 in
      let k = showable_shown q f.0 f.1 f.2 f.3 h.0 in
      let r = all_showable qs formed.1 h.1 in
      (k.0 ∷ r.0, and_from (is_shown s q k.0) (each_certified s qs r.0) k.1 r.1)
