-- The place of the first that passes a test, and what is found by it.
use Rattle.std.proofs.Common.{◌≡◌, ℕ, zero, suc, Bool, true, List, [], ◌∷◌, take, Some, None, slice_get, refl, ap, ◌∙◌}
use Rattle.std.specs.Prelude.{find}
use Rattle.std.proofs.lemmas.Bool.{cond-true, cond-false}
use Rattle.pat_mailboxes.specs.queues.Queues.{NonePasses}

module _ {X : Type 0} (test : X → Bool) where
  pub none_found : (vs : List X) → NonePasses test vs → find test vs ≡ None
  none_found [] n = refl
  none_found (v ∷ vs) n = cond-false (test v) (Some v) (find test vs) n.0 ∙ none_found vs n.1

  -- and it is the one that is found
  pub first_found : (vs : List X) (i : ℕ) (v : X) → slice_get vs i ≡ Some v → test v ≡ true → NonePasses test (take i vs) → find test vs ≡ Some v
  first_found [] i v at pass n = absurd cc
  first_found (x ∷ xs) zero v at pass n = let same : x ≡ v = cc in cond-true (test x) (Some x) (find test xs) (ap test same ∙ pass) ∙ ap (λ y. Some y) same
  first_found (x ∷ xs) (suc i) v at pass n = cond-false (test x) (Some x) (find test xs) n.0 ∙ first_found xs i v at pass n.1
