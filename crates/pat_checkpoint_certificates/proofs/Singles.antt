-- How one inclusion is shown, or that it can't be.
use Rattle.std.proofs.Common.{◌≡◌, ℕ, Bool, true, false, not, ◌&&◌, List, Option, Some, None, refl, sym, ap, ◌∙◌, subst}
use Rattle.std.proofs.lemmas.Bool.{and_from}
use Rattle.pat_words_spec.specs.Patterns.{Pat, subst_of}
use Rattle.pat_inclusion_spec.specs.Covers.{CoverEntry}
use Rattle.pat_inclusion_spec.specs.Values.{Scope, pattern_of, is_formed}
use Rattle.pat_inclusion_spec.specs.Certificates.{Cert, CoverCert, GridCert, Inclusion, is_trivial, cover_shows, grid_shows, cert_shows, shows, is_shown}
use Rattle.pat_derivation_spec.specs.Demands.{inclusion}
use Rattle.pat_checkpoint_spec.specs.Written.{IsShowable, by_itself, by_cover, by_grid}

some_same : {A : Type 0} (x y : A) → Some x ≡ Some y → x ≡ y
some_same x y h = cc

pub clash : {b : Bool} → b ≡ true → b ≡ false → ⊥
clash p q = cc

pub none_there : {o : Option ℕ} {i : ℕ} → o ≡ None → o ≡ Some i → ⊥
none_there p q = cc

-- a side of an inclusion whose interface is known
pub side_formed : (s : Scope) (o : Option ℕ) (i j : ℕ) (e : Pat) → o ≡ Some i → o ≡ Some j → is_formed s i e ≡ true → is_formed s j e ≡ true
side_formed s o i j e p q h = subst (λ n. is_formed s n e ≡ true) (some_same i j (sym p ∙ q)) h

pub same_inclusion : (o : Option ℕ) (i : ℕ) (e f : Pat) → o ≡ Some i → inclusion (Some i) e f ≡ inclusion o e f
same_inclusion o i e f p = ap (λ a. inclusion a e f) (sym p)

module _ (s : Scope) (bound : ℕ → Option ℕ) (i : ℕ) (e f : Pat) (fe : is_formed s i e ≡ true) (ff : is_formed s i f ≡ true) where
  abbrev q : Inclusion
  q = inclusion (Some i) e f

  shown_by : (k : Option Cert) → shows s i e f k ≡ true → is_shown s q k ≡ true
  shown_by k h = and_from (is_formed s i e && is_formed s i f) (shows s i e f k) (and_from (is_formed s i e) (is_formed s i f) fe ff) h

  pub trivially : is_trivial s e f ≡ true → (is_shown s q None ≡ true) × IsShowable s bound q
  trivially h = (shown_by None h, by_itself h)

  with_cert : (k : Cert) → is_trivial s e f ≡ false → cert_shows s i e f k ≡ true → is_shown s q (Some k) ≡ true
  with_cert k off h = shown_by (Some k) (and_from (not (is_trivial s e f)) (cert_shows s i e f k) (ap not off) h)

  pub covered : (entries : List CoverEntry) → is_trivial s e f ≡ false → cover_shows (s.tags i) entries (subst_of (pattern_of s) e) (subst_of (pattern_of s) f) ≡ true → (is_shown s q (Some (CoverCert entries)) ≡ true) × IsShowable s bound q
  covered entries off h = (with_cert (CoverCert entries) off h, by_cover i entries refl h)

  pub gridded : (k : ℕ) → is_trivial s e f ≡ false → bound i ≡ Some k → grid_shows s k (s.tags i) e f ≡ true → (is_shown s q (Some (GridCert k)) ≡ true) × IsShowable s bound q
  gridded k off at h = (with_cert (GridCert k) off h, by_grid i k refl at h)

  pub not_shown : is_trivial s e f ≡ false → ((entries : List CoverEntry) → cover_shows (s.tags i) entries (subst_of (pattern_of s) e) (subst_of (pattern_of s) f) ≡ true → ⊥) → ((k : ℕ) → bound i ≡ Some k → grid_shows s k (s.tags i) e f ≡ true → ⊥) → IsShowable s bound q → ⊥
  not_shown off no_cover no_grid (by_itself on) = clash on off
  not_shown off no_cover no_grid (by_cover j entries at h) =
      no_cover entries (subst (λ n. cover_shows (s.tags n) entries (subst_of (pattern_of s) e) (subst_of (pattern_of s) f) ≡ true) (some_same j i (sym at)) h)
  not_shown off no_cover no_grid (by_grid j k at there h) =
      let same : j ≡ i = some_same j i (sym at) in
      no_grid k (subst (λ n. bound n ≡ Some k) same there) (subst (λ n. grid_shows s k (s.tags n) e f ≡ true) same h)
