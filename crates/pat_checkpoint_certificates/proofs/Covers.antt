-- What the search for a cover says of an inclusion.
use Rattle.std.proofs.Common.{◌≡◌, ℕ, ◌<◌, Bool, true, false, List, Option, Some, None, refl, sym, ap₂, ◌∙◌, subst}
use Rattle.std.specs.Prelude.{IsSome, IfSome, Result, Ok, Err, IfOk, ◌↔◌}
use Rattle.pat_words_spec.specs.Patterns.{Pat, subst_of}
use Rattle.pat_inclusion_spec.specs.Counts.{most_tags}
use Rattle.pat_inclusion_spec.specs.LinearSets.{LinearSet, SetsBelow}
use Rattle.pat_inclusion_spec.specs.ClosedForms.{closed_form}
use Rattle.pat_inclusion_spec.specs.Covers.{CoverEntry, is_cover, IsDirectlyCovered}
use Rattle.pat_inclusion_spec.specs.Values.{Scope, pattern_of, is_formed, values_fit}
use Rattle.pat_inclusion_spec.specs.Certificates.{covers_forms, cover_shows}
use Rattle.pat_inclusion_laws.proofs.Forms.{form_below}
use Rattle.pat_inclusion_laws.proofs.CoverLaws.{form_is, cover_direct}
use Rattle.pat_inclusion_laws.proofs.Shown.{replaced_tags}
use Rattle.pat_cover_certificates.specs.declared.cover.CoverEntry.{CoverEntry as CodeEntry}
use Rattle.pat_cover_certificates.specs.Views.{entries_view}
use Rattle.pat_certificate_checks.proofs.CoverTags.{cover_shown, no_left_form, no_right_form}
use Rattle.pat_checkpoint_certificates.specs.Found.{IsCover}

clash : {b : Bool} → false ≡ b → b ≡ true → ⊥
clash p q = cc

none_some : (A : Type 0) → IsSome {T = A} None → ⊥
none_some A s = cc

-- where none is found there is none
pub none_found : (n : ℕ) (e f : Pat) (o : Option (List CodeEntry)) → ((x : List CodeEntry) → o ≡ Some x → ⊥) → IsCover n e f o → IsCover n e f None
none_found n e f None out h = h
none_found n e f (Some x) out h = absurd (out x refl)

pub left_too_large : (n : ℕ) (e f : Pat) → None ≡ closed_form n e → IsCover n e f None
left_too_large n e f h entries shown = clash (no_left_form n e f entries h) shown

pub right_too_large : (n : ℕ) (e f : Pat) (left : List LinearSet) → Some left ≡ closed_form n e → None ≡ closed_form n f → IsCover n e f None
right_too_large n e f left le h entries shown = clash (no_right_form n e f left entries le h) shown

module _ (s : Scope) (i : ℕ) (e f : Pat) (left right : List LinearSet) (few : s.tags i < 33) (fit : values_fit s ≡ true) (fe : is_formed s i e ≡ true) (ff : is_formed s i f ≡ true) (le : Some left ≡ closed_form (s.tags i) (subst_of (pattern_of s) e)) (rf : Some right ≡ closed_form (s.tags i) (subst_of (pattern_of s) f)) where
  abbrev n : ℕ
  n = s.tags i

  below : (g : Pat) (sets : List LinearSet) → is_formed s i g ≡ true → Some sets ≡ closed_form n (subst_of (pattern_of s) g) → SetsBelow n sets
  below g sets fg h = subst (SetsBelow n) (sym (form_is n (subst_of (pattern_of s) g) sets (sym h))) (form_below n (subst_of (pattern_of s) g) (replaced_tags s i g fit fg))

  direct : (entries : List CoverEntry) → cover_shows n entries (subst_of (pattern_of s) e) (subst_of (pattern_of s) f) ≡ true → IsDirectlyCovered left right
  direct entries h = cover_direct n left right entries (below e left fe le) (below f right ff rf) (ap₂ (covers_forms n entries) le rf ∙ h)

  found_is : (found : Option (List CodeEntry)) → IsSome found ↔ IsDirectlyCovered left right → IfSome found (λ cover. is_cover most_tags left right (entries_view cover) ≡ true) → IsCover n (subst_of (pattern_of s) e) (subst_of (pattern_of s) f) found
  found_is None exact checks = λ entries h. none_some (List CodeEntry) (exact.1 (direct entries h))
  found_is (Some cover) exact checks = sym (cover_shown s i e f left right (entries_view cover) few fit fe ff le rf) ∙ checks

  pub search_is : {E : Type 0} → (r : Result (Option (List CodeEntry)) E) → IfOk r (λ found. IsSome found ↔ IsDirectlyCovered left right) → IfOk r (λ found. IfSome found (λ cover. is_cover most_tags left right (entries_view cover) ≡ true)) → IfOk r (IsCover n (subst_of (pattern_of s) e) (subst_of (pattern_of s) f))
  search_is (Ok found) exact checks = found_is found exact checks
  search_is (Err x) exact checks = tt
