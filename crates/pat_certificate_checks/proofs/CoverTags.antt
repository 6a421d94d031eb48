-- Covers are the same however many more tags are compared.
use Rattle.std.proofs.Common.{◌≡◌, ℕ, zero, suc, ◌+◌, ◌-◌, ◌*◌, ◌≤◌, ◌<◌, true, false, ◌&&◌, List, [], ◌∷◌, Option, Some, None, length, refl, sym, ap, ap₂, ◌∙◌, subst, arith, mul-zero}
use Rattle.std.specs.Prelude.{slice_get, nat_eq}
use Rattle.std.specs.List.{AllByRecursion}
use Rattle.pat_words_spec.specs.Words.{Word, no_word, plus}
use Rattle.pat_words_spec.specs.Patterns.{Pat, subst_of}
use Rattle.pat_words_spec.specs.Tags.{tags_below, HasTagsBelow}
use Rattle.pat_inclusion_spec.specs.Counts.{scaled, most_tags}
use Rattle.pat_inclusion_spec.specs.LinearSets.{LinearSet, combined, SetBelow, SetsBelow}
use Rattle.pat_inclusion_spec.specs.ClosedForms.{closed_form, sets_of}
use Rattle.pat_inclusion_spec.specs.Covers.{CoverEntry, makes, makes_from, make_each, entry_covers, is_cover}
use Rattle.pat_inclusion_spec.specs.Certificates.{covers_forms, cover_shows}
use Rattle.pat_inclusion_laws.proofs.Forms.{form_below}
use Rattle.pat_inclusion_laws.proofs.CoverLaws.{form_is}
use Rattle.pat_inclusion_spec.specs.Values.{Scope, pattern_of, is_formed, values_fit}
use Rattle.pat_inclusion_laws.proofs.Exact.{same_more, tags_are}
use Rattle.pat_inclusion_laws.proofs.Shown.{replaced_tags}

combined_below : (n : ℕ) (cs : List ℕ) (ps : List Word) → AllByRecursion (HasTagsBelow n) ps → HasTagsBelow n (combined cs ps)
combined_below n [] ps h t l = refl
combined_below n (c ∷ cs) [] h t l = refl
combined_below n (c ∷ cs) (p ∷ ps) h t l =
    let a : p t ≡ 0 = h.0 t l in
    let b : c * p t ≡ 0 = ap (λ x. c * x) a ∙ mul-zero c in
    let r : combined cs ps t ≡ 0 = combined_below n cs ps h.1 t l in
    ap₂ (λ x y. x + y) b r

module _ (n j : ℕ) where
  makes_more : (ps : List Word) (cs : List ℕ) (w : Word) → AllByRecursion (HasTagsBelow n) ps → HasTagsBelow n w → makes (j + n) ps cs w ≡ makes n ps cs w
  makes_more ps cs w hp hw = ap (λ b. nat_eq (length cs) (length ps) && b) (same_more n w (combined cs ps) hw (combined_below n cs ps hp) j)

  from_more : (base : Word) (ps : List Word) (cs : List ℕ) (w : Word) → HasTagsBelow n base → AllByRecursion (HasTagsBelow n) ps → HasTagsBelow n w → makes_from (j + n) base ps cs w ≡ makes_from n base ps cs w
  from_more base ps cs w hb hp hw =
      ap (λ b. nat_eq (length cs) (length ps) && b)
      (same_more n w (plus base (combined cs ps)) hw (λ t l. ap₂ (λ x y. x + y) (hb t l) (combined_below n cs ps hp t l)) j)

  each_more : (ps : List Word) (rows : List (List ℕ)) (ws : List Word) → AllByRecursion (HasTagsBelow n) ps → AllByRecursion (HasTagsBelow n) ws → make_each (j + n) ps rows ws ≡ make_each n ps rows ws
  each_more ps [] [] hp hw = refl
  each_more ps [] (w ∷ ws) hp hw = refl
  each_more ps (cs ∷ rows) [] hp hw = refl
  each_more ps (cs ∷ rows) (w ∷ ws) hp hw = ap₂ (λ a b. a && b) (makes_more ps cs w hp hw.0) (each_more ps rows ws hp hw.1)

  set_at : (right : List LinearSet) (k : ℕ) (r : LinearSet) → SetsBelow n right → slice_get right k ≡ Some r → SetBelow n r
  set_at [] k r h e = absurd (cc)
  set_at (x ∷ right) zero r h e = let same : x ≡ r = cc in subst (SetBelow n) same h.0
  set_at (x ∷ right) (suc k) r h e = set_at right k r h.1 e

  entry_more : (entry : CoverEntry) (s : LinearSet) (right : List LinearSet) → SetBelow n s → SetsBelow n right → entry_covers (j + n) entry s (slice_get right entry.set) ≡ entry_covers n entry s (slice_get right entry.set)
  entry_more entry s right hs hr = go (slice_get right entry.set) refl
    where
      go : (o : Option LinearSet) → slice_get right entry.set ≡ o → entry_covers (j + n) entry s o ≡ entry_covers n entry s o
      go None e = refl
      go (Some r) e =
          let below = set_at right entry.set r hr e in
          ap₂ (λ a b. a && b) (from_more r.base r.periods entry.base s.base below.0 below.1 hs.0) (each_more r.periods entry.periods s.periods below.1 hs.1)

  cover_more : (left right : List LinearSet) (entries : List CoverEntry) → SetsBelow n left → SetsBelow n right → is_cover (j + n) left right entries ≡ is_cover n left right entries
  cover_more [] right [] hl hr = refl
  cover_more [] right (entry ∷ entries) hl hr = refl
  cover_more (s ∷ left) right [] hl hr = refl
  cover_more (s ∷ left) right (entry ∷ entries) hl hr = ap₂ (λ a b. a && b) (entry_more entry s right hl.0 hr) (cover_more left right entries hl.1 hr)

cover_same : (n : ℕ) (left right : List LinearSet) (entries : List CoverEntry) → n < 33 → SetsBelow n left → SetsBelow n right → is_cover most_tags left right entries ≡ is_cover n left right entries
cover_same n left right entries few hl hr =
    let whole : most_tags ≡ (32 - n) + n = tags_are ∙ rest n few in
    ap (λ m. is_cover m left right entries) whole ∙ cover_more n (32 - n) left right entries hl hr
  where
    rest : (n : ℕ) → n < 33 → 32 ≡ (32 - n) + n
    rest n l = omega arith

-- a cover of the closed forms shows the inclusion just where it is one
cover_of_forms : (n : ℕ) (e f : Pat) (left right : List LinearSet) (entries : List CoverEntry) → n < 33 → tags_below n e ≡ true → tags_below n f ≡ true → Some left ≡ closed_form n e → Some right ≡ closed_form n f → is_cover most_tags left right entries ≡ cover_shows n entries e f
cover_of_forms n e f left right entries few te tf le rf =
    cover_same n left right entries few
    (subst (SetsBelow n) (sym (form_is n e left (sym le))) (form_below n e te))
    (subst (SetsBelow n) (sym (form_is n f right (sym rf))) (form_below n f tf))
    ∙ ap₂ (covers_forms n entries) le rf

pub cover_shown : (s : Scope) (i : ℕ) (e f : Pat) (left right : List LinearSet) (entries : List CoverEntry) → s.tags i < 33 → values_fit s ≡ true → is_formed s i e ≡ true → is_formed s i f ≡ true → Some left ≡ closed_form (s.tags i) (subst_of (pattern_of s) e) → Some right ≡ closed_form (s.tags i) (subst_of (pattern_of s) f) → is_cover most_tags left right entries ≡ cover_shows (s.tags i) entries (subst_of (pattern_of s) e) (subst_of (pattern_of s) f)
cover_shown s i e f left right entries few fit fe ff le rf =
    cover_of_forms (s.tags i) (subst_of (pattern_of s) e) (subst_of (pattern_of s) f) left right entries few (replaced_tags s i e fit fe) (replaced_tags s i f fit ff) le rf

pub no_left_form : (n : ℕ) (e f : Pat) (entries : List CoverEntry) → None ≡ closed_form n e → false ≡ cover_shows n entries e f
no_left_form n e f entries h = ap (λ o. covers_forms n entries o (closed_form n f)) h

pub no_right_form : (n : ℕ) (e f : Pat) (left : List LinearSet) (entries : List CoverEntry) → Some left ≡ closed_form n e → None ≡ closed_form n f → false ≡ cover_shows n entries e f
no_right_form n e f left entries le h = ap₂ (covers_forms n entries) le h
