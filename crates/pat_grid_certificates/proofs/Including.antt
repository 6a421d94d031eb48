-- Where the bound is large enough, cuts that lie in one another show an inclusion.
use Rattle.std.proofs.Common.{◌≡◌, ℕ, zero, suc, ◌≤◌, ◌↔◌, Bool, true, List, [], ◌∷◌, refl, sym, subst, arith}
use Rattle.std.specs.Prelude.{nat_lt, slice_get, Result, Ok, Err, IfOk}
use Rattle.std.proofs.lemmas.Bool.{and_parts, ltb-true, eqb-true}
use Rattle.pat_words_spec.specs.Words.{Word}
use Rattle.pat_words_spec.specs.Patterns.{Pat, In, Included, no_values, subst_of}
use Rattle.pat_words_spec.specs.Flats.{is_flat, degree_of}
use Rattle.pat_words_spec.specs.Tags.{tags_below, HasTagsBelow}
use Rattle.pat_words_spec.specs.Cuts.{cut_at, CutOf}
use Rattle.pat_words_laws.proofs.FormLaws.{subst_to}
use Rattle.pat_inclusion_spec.specs.Points.{grid_fits}
use Rattle.pat_inclusion_spec.specs.Values.{VarValue, PatternForm, GridForm}
use Rattle.pat_inclusion_laws.proofs.CutLaws.{cut_below, cut_twice}
use Rattle.pat_inclusion_laws.proofs.PointLaws.{points_by_cut}
use Rattle.pat_inclusion_spec.specs.bounds.Assignments.{Right, PatternRight, VarRight}
use Rattle.pat_inclusion_laws.proofs.CutSetLaws.{in_by_cut}
use Rattle.pat_inclusion_laws.proofs.GridLaws.{under_below}
use Rattle.pat_grid_points.proofs.Digits.{bound_fits}
use Rattle.pat_grid_certificates.specs.Shows.{patterns_of, right_of, is_large, form_in, ValuesFit, CutsLie}
use Rattle.pat_grid_certificates.proofs.Meaning.{pattern_below}

values_below : (n : ℕ) (vs : List VarValue) → ValuesFit n vs → (j : ℕ) (w : Word) → In (patterns_of n vs j) w → HasTagsBelow n w
values_below n [] fit j w h = absurd h
values_below n (v ∷ vs) fit zero w h = pattern_below n v w fit.0 h
values_below n (v ∷ vs) fit (suc j) w h = values_below n vs fit.1 j w h

left_below : (n : ℕ) (vs : List VarValue) (e : Pat) (w : Word) → ValuesFit n vs → tags_below n e ≡ true → In (subst_of (patterns_of n vs) e) w → HasTagsBelow n w
left_below n vs e w fit tags h =
    under_below n (λ j. In (patterns_of n vs j)) (values_below n vs fit) e tags w (subst_to (patterns_of n vs) no_values e w h)

-- a variable whose value has just this bound
var_in : (k n : ℕ) (vs : List VarValue) (j : ℕ) (w : Word) → 1 ≤ k → form_in k (slice_get vs j) ≡ true → CutOf k (In (patterns_of n vs j)) (cut_at k w) → In (patterns_of n vs j) w
var_in k n [] j w l h c = absurd (cc)
var_in k n (PatternForm e ∷ vs) zero w l h c = absurd (cc)
var_in k n (GridForm b points ∷ vs) zero w l h c =
    let same : b ≡ k = eqb-true b k h in
    points_by_cut b n points c.0 w (omega arith) c.1
    (subst (λ i. cut_at i c.0 ≡ cut_at i w) (sym same) (sym c.2))
var_in k n (v ∷ vs) (suc j) w l h c = var_in k n vs j w l h c

right_in : (k n : ℕ) (vs : List VarValue) (right : Right) (w : Word) → 1 ≤ k → is_large k vs right ≡ true → CutOf k (In (right_of n vs right)) (cut_at k w) → In (right_of n vs right) w
right_in k n vs (PatternRight f) w l h c =
    let p = and_parts (is_flat f) (nat_lt (degree_of f) k) h in in_by_cut k f w p.0 (ltb-true (degree_of f) k p.1) c
right_in k n vs (VarRight j) w l h c = var_in k n vs j w l h c

pub answer_included : {E : Type 0} (k n : ℕ) (vs : List VarValue) (e : Pat) (right : Right) (r : Result Bool E) → grid_fits k n ≡ true → ValuesFit n vs → tags_below n e ≡ true → IfOk r (λ yes. (yes ≡ true) ↔ ((is_large k vs right ≡ true) × CutsLie k n (subst_of (patterns_of n vs) e) (right_of n vs right))) → IfOk r (λ yes. yes ≡ true → Included (subst_of (patterns_of n vs) e) (right_of n vs right))
answer_included k n vs e right (Err x) fits fit tags h = tt
answer_included k n vs e right (Ok answer) fits fit tags h =
    λ t w m.
    let both = h.0 t in
    let below = left_below n vs e w fit tags m in
    right_in k n vs right w (bound_fits k n fits) both.0
    (both.1 (cut_at k w) (cut_below n k w below, sym (cut_twice k w)) (w, m, refl))
