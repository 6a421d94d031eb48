-- What can be shown with the values of one solution can be shown with those of another one.
use Rattle.std.proofs.Common.{◌≡◌, ℕ, zero, suc, true, List, [], ◌∷◌, Option, Some, None, refl, ap, subst}
use Rattle.std.specs.Prelude.{◌&&◌}
use Rattle.std.specs.List.{AllByRecursion}
use mathlib.Core.Path.{fun_ext}
use Rattle.pat_words_spec.specs.Patterns.{Pat, Zero, One, Tag, Sum, Prod, Star, Var, subst_of}
use Rattle.pat_inclusion_spec.specs.Points.{grid_fits}
use Rattle.pat_inclusion_spec.specs.CutWords.{cuts_lie}
use Rattle.pat_inclusion_spec.specs.Values.{VarLine, Scope, var_at, pattern_of, plain_or_var}
use Rattle.pat_inclusion_spec.specs.Certificates.{Inclusion, is_arm, cover_shows, is_large_enough, grid_shows}
use Rattle.pat_checkpoint_spec.specs.Written.{IsShowable, by_itself, by_cover, by_grid, CanBeShown, IsFirstUnshown}
use Rattle.pat_command_checkpoint.proofs.Solutions.{AreAlike}

module _ (s : Scope) (bound : ℕ → Option ℕ) where
  pub none_unshown : (qs : List (Option Inclusion)) (n : ℕ) → AllByRecursion (CanBeShown s bound) qs → IsFirstUnshown s bound qs n → ⊥
  none_unshown [] n a h = h
  none_unshown (q ∷ qs) zero a h = h
  none_unshown (q ∷ qs) (suc zero) a h = h a.0
  none_unshown (q ∷ qs) (suc (suc n)) a h = none_unshown qs (suc n) a.1 h.1

module _ (tags : ℕ → ℕ) (vs us : List VarLine) (alike : (k : ℕ) → AreAlike tags (var_at vs k) (var_at us k)) (bound : ℕ → Option ℕ) where
  abbrev s : Scope
  s = record { tags = tags; vars = vs }

  abbrev t : Scope
  t = record { tags = tags; vars = us }

  patterns : pattern_of s ≡ pattern_of t
  patterns = fun_ext (λ k. (alike k).pattern)

  abbrev plain_in : List VarLine → ℕ → Pat
  plain_in xs k = plain_or_var k (var_at xs k)

  plains : plain_in vs ≡ plain_in us
  plains = fun_ext (λ k. (alike k).plain k)

  large : (k : ℕ) (f : Pat) → is_large_enough s k f ≡ is_large_enough t k f
  large k Zero = refl
  large k One = refl
  large k (Tag m) = refl
  large k (Sum e f) = refl
  large k (Prod e f) = refl
  large k (Star e) = refl
  large k (Var m) = (alike m).bound k

  by_bound : (k n : ℕ) (e f : Pat) → grid_shows s k n e f ≡ true → grid_shows t k n e f ≡ true
  by_bound k n e f h =
      subst (λ l. (grid_fits k n && (l && cuts_lie k n (subst_of (pattern_of t) e) (subst_of (pattern_of t) f))) ≡ true) (large k f)
      (subst (λ (v : ℕ → Pat). (grid_fits k n && (is_large_enough s k f && cuts_lie k n (subst_of v e) (subst_of v f))) ≡ true) patterns h)

  so_showable : (q : Inclusion) → IsShowable s bound q → IsShowable t bound q
  so_showable q (by_itself h) = by_itself (subst (λ (v : ℕ → Pat). is_arm (subst_of v q.left) (subst_of v q.right) ≡ true) plains h)
  so_showable q (by_cover i entries at h) =
      by_cover i entries at (subst (λ (v : ℕ → Pat). cover_shows (tags i) entries (subst_of v q.left) (subst_of v q.right) ≡ true) patterns h)
  so_showable q (by_grid i k at own h) = by_grid i k at own (by_bound k (tags i) q.left q.right h)

  pub so_shown : (q : Option Inclusion) → CanBeShown s bound q → CanBeShown t bound q
  so_shown None h = tt
  so_shown (Some q) h = so_showable q h

-- and the first line that can't is one
module _ (s t : Scope) (bound : ℕ → Option ℕ) (to : (q : Option Inclusion) → CanBeShown s bound q → CanBeShown t bound q) (back : (q : Option Inclusion) → CanBeShown t bound q → CanBeShown s bound q) where
  pub one_unshown : (qs : List (Option Inclusion)) (n m : ℕ) → IsFirstUnshown s bound qs n → IsFirstUnshown t bound qs m → n ≡ m
  one_unshown [] n m h k = absurd h
  one_unshown (q ∷ qs) zero m h k = absurd h
  one_unshown (q ∷ qs) (suc n) zero h k = absurd k
  one_unshown (q ∷ qs) (suc zero) (suc zero) h k = refl
  one_unshown (q ∷ qs) (suc zero) (suc (suc m)) h k = absurd (h (back q k.0))
  one_unshown (q ∷ qs) (suc (suc n)) (suc zero) h k = absurd (k (to q h.0))
  one_unshown (q ∷ qs) (suc (suc n)) (suc (suc m)) h k = ap suc (one_unshown qs (suc n) (suc m) h.1 k.1)
