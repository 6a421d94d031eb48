-- Closed forms that are kept.
use Rattle.std.proofs.Common.{◌≡◌, ℕ, zero, suc, true, List, [], ◌∷◌, ◌++◌, Option, Some, None, Bor, sym, subst}
use Rattle.std.specs.Prelude.{slice_get, slice_set, IfSome}
use Rattle.pat_words_spec.specs.Patterns.{Pat, Var, subst_of}
use Rattle.pat_inclusion_spec.specs.ClosedForms.{closed_form}
use Rattle.pat_inclusion_spec.specs.Values.{Scope, pattern_of, is_formed}
use Rattle.pat_linear.specs.Views.{sets_view}
use Rattle.pat_linear.specs.declared.set.LinearSet.{LinearSet as CodeSet}
use Rattle.pat_solve_derivation.specs.certificates.ClosedValues.{IsClosedAt, AreClosed}

-- what is kept for a variable is the closed form of a side that is this variable
pub kept_side : (s : Scope) (all : List (Option (List CodeSet))) (k : ℕ) (e : Pat) (o : Option (Bor (List CodeSet))) → Var k ≡ e → AreClosed s all → IfSome o (λ sets. slice_get all k ≡ Some (Some sets.now)) → IfSome o (λ sets. (i : ℕ) → is_formed s i e ≡ true → closed_form (s.tags i) (subst_of (pattern_of s) e) ≡ Some (sets_view sets.now))
kept_side s all k e None q a h = tt
kept_side s all k e (Some sets) q a h =
    subst (λ x. (i : ℕ) → is_formed s i x ≡ true → closed_form (s.tags i) (subst_of (pattern_of s) x) ≡ Some (sets_view sets.now)) q (λ i f. a k (Some sets.now) h i f)

-- ---- what is kept, where one more is made

each_set : {A : Type 0} (P : ℕ → A → Type 0) (xs : List A) (place : ℕ) (x : A) → P place x → ((k : ℕ) (y : A) → slice_get xs k ≡ Some y → P k y) → (k : ℕ) (y : A) → slice_get (slice_set xs place x) k ≡ Some y → P k y
each_set P [] place x own each k y h = each k y h
each_set P (z ∷ zs) zero x own each zero y h = let same : x ≡ y = cc in subst (P 0) same own
each_set P (z ∷ zs) zero x own each (suc k) y h = each (suc k) y h
each_set P (z ∷ zs) (suc place) x own each zero y h = each 0 y h
each_set P (z ∷ zs) (suc place) x own each (suc k) y h =
    each_set (λ j. P (suc j)) zs place x own (λ j. each (suc j)) k y h

each_pushed : {A : Type 0} (P : ℕ → A → Type 0) (xs : List A) (x : A) → ((k : ℕ) → P k x) → ((k : ℕ) (y : A) → slice_get xs k ≡ Some y → P k y) → (k : ℕ) (y : A) → slice_get (xs ++ x ∷ []) k ≡ Some y → P k y
each_pushed P [] x own each zero y h = let same : x ≡ y = cc in subst (P 0) same (own 0)
each_pushed P [] x own each (suc k) y h = each (suc k) y h
each_pushed P (z ∷ zs) x own each zero y h = each 0 y h
each_pushed P (z ∷ zs) x own each (suc k) y h =
    each_pushed (λ j. P (suc j)) zs x (λ j. own (suc j)) (λ j. each (suc j)) k y h

module _ (s : Scope) where
  pub one_kept : (old new : List (Option (List CodeSet))) (k : ℕ) (o : Option (List CodeSet)) → AreClosed s old → new ≡ slice_set old k o → IsClosedAt s k o → AreClosed s new
  one_kept old new k o all made own = subst (AreClosed s) (sym made) (each_set (IsClosedAt s) old k o own all)

  pub none_more : (old new : List (Option (List CodeSet))) → AreClosed s old → new ≡ old ++ None ∷ [] → AreClosed s new
  none_more old new all made = subst (AreClosed s) (sym made) (each_pushed (IsClosedAt s) old None (λ k. tt) all)

  pub none_yet : (closed : List (Option (List CodeSet))) → closed ≡ [] → AreClosed s closed
  none_yet closed empty = subst (AreClosed s) (sym empty) (λ k o h. absurd (nothing k o h))
    where
      nothing : (k : ℕ) (o : Option (List CodeSet)) → slice_get [] k ≡ Some o → ⊥
      nothing k o h = cc
