-- What frames need, where some are below others.
use Rattle.std.proofs.Common.{◌≡◌, ℕ, suc, List, [], ◌∷◌, ◌++◌, length, Option, refl, sym, ap, ◌∙◌, subst, reverse}
use Rattle.std.specs.List.{AllByRecursion}
use Rattle.std.proofs.lemmas.List.{reverse-append, reverse-reverse, length-reverse}
use Rattle.std.proofs.lemmas.Grind.{reverse_onto}
use Rattle.pat_semantics_spec.specs.Programs.{Program}
use Rattle.pat_semantics_spec.specs.Configs.{Frame}
use Rattle.pat_semantics_laws.proofs.Lists.{all_snoc}
use Rattle.pat_inclusion_spec.specs.Values.{Scope}
use Rattle.pat_inclusion_spec.specs.Certificates.{Inclusion}
use Rattle.pat_type_system_spec.specs.Typings.{Typing}
use Rattle.pat_type_system_spec.specs.Holdings.{wanted}
use Rattle.pat_checkpoint_spec.specs.Kinds.{type_needs}
use Rattle.pat_checkpoint_spec.specs.Written.{frames_need, IsFormedNeed, NeedsFormed, CanBeShown, IsFirstUnshown}
use Rattle.pat_checkpoint_certificates.proofs.Sections.{first_here}

pub turned_all : {A : Type 0} (P : A → Type 0) (xs : List A) → AllByRecursion P xs → AllByRecursion P (reverse xs)
turned_all P [] a = tt
turned_all P (x ∷ xs) a = subst (AllByRecursion P) (sym (reverse_onto xs x [])) (all_snoc P (reverse xs) x (turned_all P xs a.1) a.0)

pub turned_back : {A : Type 0} (P : A → Type 0) (xs : List A) → AllByRecursion P (reverse xs) → AllByRecursion P xs
turned_back P xs a = subst (AllByRecursion P) (reverse-reverse xs) (turned_all P (reverse xs) a)

module _ (p : Program) (y : Typing) where
  abbrev need : Frame → List Frame → Option Inclusion
  need f fs = type_needs (y.results f.body) (wanted p y fs)

  pub frames_count : (fs : List Frame) → length (frames_need p y fs) ≡ length fs
  frames_count [] = refl
  frames_count (f ∷ fs) = ap suc (frames_count fs)

  -- what those above need comes first
  needs_below : (gs fs : List Frame) → (ms : List (Option Inclusion)) × (frames_need p y (gs ++ fs) ≡ ms ++ frames_need p y fs)
  needs_below [] fs = ([], refl)
  needs_below (g ∷ gs) fs = let r = needs_below gs fs in (need g (gs ++ fs) ∷ r.0, ap (λ l. need g (gs ++ fs) ∷ l) r.1)

  pub formed_at : (s : Scope) (gs : List Frame) (f : Frame) (fs : List Frame) → NeedsFormed s (frames_need p y (gs ++ f ∷ fs)) → IsFormedNeed s (need f fs)
  formed_at s [] f fs a = a.0
  formed_at s (g ∷ gs) f fs a = formed_at s gs f fs a.1

  -- where those below can be shown and the frame can't, it is the first from the last one up
  pub first_frame : (s : Scope) (bound : ℕ → Option ℕ) (gs : List Frame) (f : Frame) (fs : List Frame) → AllByRecursion (CanBeShown s bound) (frames_need p y fs) → (CanBeShown s bound (need f fs) → ⊥) → IsFirstUnshown s bound (reverse (frames_need p y (gs ++ f ∷ fs))) (suc (length fs))
  first_frame s bound gs f fs a h =
      let r = needs_below gs (f ∷ fs) in
      let own = reverse (frames_need p y fs) in
      let turned : reverse (frames_need p y (gs ++ f ∷ fs)) ≡ own ++ need f fs ∷ reverse r.0 =
      ap reverse r.1
      ∙ reverse-append r.0 (need f fs ∷ frames_need p y fs)
      ∙ ap (λ l. l ++ reverse r.0) (reverse_onto (frames_need p y fs) (need f fs) [])
      ∙ joined own (need f fs) (reverse r.0) in
      let count : length own ≡ length fs = length-reverse (frames_need p y fs) ∙ frames_count fs in
      subst (λ n. IsFirstUnshown s bound (reverse (frames_need p y (gs ++ f ∷ fs))) (suc n)) count
      (subst (λ l. IsFirstUnshown s bound l (suc (length own))) (sym turned)
      (first_here s bound own (need f fs) (reverse r.0) (turned_all (CanBeShown s bound) (frames_need p y fs) a) h))
    where
      joined : {A : Type 0} (xs : List A) (x : A) (ys : List A) → (xs ++ x ∷ []) ++ ys ≡ xs ++ x ∷ ys
      joined [] x ys = refl
      joined (z ∷ xs) x ys = ap (λ l. z ∷ l) (joined xs x ys)
