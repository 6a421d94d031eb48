-- The first line that can't be shown, among lines before and behind it.
use Rattle.std.proofs.Common.{◌≡◌, ℕ, zero, suc, ◌+◌, List, [], ◌∷◌, ◌++◌, length, Option, refl, subst, arith}
use Rattle.std.specs.List.{AllByRecursion}
use Rattle.pat_inclusion_spec.specs.Values.{Scope}
use Rattle.pat_inclusion_spec.specs.Certificates.{Inclusion}
use Rattle.pat_checkpoint_spec.specs.Written.{CanBeShown, IsFirstUnshown}

module _ (s : Scope) (bound : ℕ → Option ℕ) where
  pub first_here : (qs : List (Option Inclusion)) (q : Option Inclusion) (rest : List (Option Inclusion)) → AllByRecursion (CanBeShown s bound) qs → (CanBeShown s bound q → ⊥) → IsFirstUnshown s bound (qs ++ q ∷ rest) (suc (length qs))
  first_here [] q rest a h = h
  first_here (x ∷ qs) q rest a h = (a.0, first_here qs q rest a.1 h)

  pub first_later : (qs rest : List (Option Inclusion)) (k n : ℕ) → n ≡ length qs + k → AllByRecursion (CanBeShown s bound) qs → IsFirstUnshown s bound rest (suc k) → IsFirstUnshown s bound (qs ++ rest) (suc n)
  first_later [] rest k n is a h = let same : k ≡ n = omega arith in subst (λ j. IsFirstUnshown s bound rest (suc j)) same h
  first_later (x ∷ qs) rest k n is a h =
      let before : suc (length qs + k) ≡ n = omega arith in
      subst (λ j. IsFirstUnshown s bound (x ∷ (qs ++ rest)) (suc j)) before (a.0, first_later qs rest k (length qs + k) refl a.1 h)

  pub first_before : (qs rest : List (Option Inclusion)) (k : ℕ) → IsFirstUnshown s bound qs (suc k) → IsFirstUnshown s bound (qs ++ rest) (suc k)
  first_before [] rest k h = absurd h
  first_before (x ∷ qs) rest zero h = h
  first_before (x ∷ qs) rest (suc k) h = (h.0, first_before qs rest k h.1)
