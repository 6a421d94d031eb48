-- Certificates by grids that are noted.
use Rattle.std.proofs.Common.{◌≡◌, ℕ, true, ◌&&◌, Option, Some, refl, sym, subst}
use Rattle.std.specs.Prelude.{nat_eq}
use Rattle.std.proofs.lemmas.Bool.{and_parts, eqb-true}
use Rattle.pat_words_spec.specs.Patterns.{Pat, pat_eq}
use Rattle.pat_words_laws.proofs.PatternLaws.{pat_eq_same}
use Rattle.pat_inclusion_spec.specs.Values.{Scope}
use Rattle.pat_inclusion_spec.specs.Certificates.{grid_shows}
use Rattle.pat_patterns.specs.Views.{pattern_view}
use Rattle.pat_certificate_checks.specs.declared.grids.GridNote.{GridNote}
use Rattle.pat_certificate_checks.specs.Notes.{IsNoted}

pub noted_shows : (n : GridNote) (i k : ℕ) (e f : Pat) → (nat_eq n.interface i && (nat_eq n.k k && (pat_eq (pattern_view n.left) e && pat_eq (pattern_view n.right) f))) ≡ true → (s : Scope) → IsNoted s (Some n) → grid_shows s k (s.tags i) e f ≡ true
noted_shows n i k e f h s noted =
    let first = and_parts (nat_eq n.interface i) (nat_eq n.k k && (pat_eq (pattern_view n.left) e && pat_eq (pattern_view n.right) f)) h in
    let second = and_parts (nat_eq n.k k) (pat_eq (pattern_view n.left) e && pat_eq (pattern_view n.right) f) first.1 in
    let sides = and_parts (pat_eq (pattern_view n.left) e) (pat_eq (pattern_view n.right) f) second.1 in
    subst (λ x. grid_shows s k (s.tags x) e f ≡ true) (eqb-true n.interface i first.0)
    (subst (λ x. grid_shows s x (s.tags n.interface) e f ≡ true) (eqb-true n.k k second.0)
    (subst (λ x. grid_shows s n.k (s.tags n.interface) x f ≡ true) (pat_eq_same (pattern_view n.left) e sides.0)
    (subst (λ x. grid_shows s n.k (s.tags n.interface) (pattern_view n.left) x ≡ true) (pat_eq_same (pattern_view n.right) f sides.1) noted)))

pub new_note : (noted : Option GridNote) (n : GridNote) (i k : ℕ) (e f : Pat) → noted ≡ Some n → n.interface ≡ i → n.k ≡ k → pattern_view n.left ≡ e → pattern_view n.right ≡ f → (s : Scope) → grid_shows s k (s.tags i) e f ≡ true → IsNoted s noted
new_note noted n i k e f is own bound left right s h =
    subst (IsNoted s) (sym is)
    (subst (λ x. grid_shows s n.k (s.tags x) (pattern_view n.left) (pattern_view n.right) ≡ true) (sym own)
    (subst (λ x. grid_shows s x (s.tags i) (pattern_view n.left) (pattern_view n.right) ≡ true) (sym bound)
    (subst (λ x. grid_shows s k (s.tags i) x (pattern_view n.right) ≡ true) (sym left)
    (subst (λ x. grid_shows s k (s.tags i) e x ≡ true) (sym right) h))))
