-- Lists up to a place and from there on.
use Rattle.std.proofs.Common.{◌≡◌, ℕ, zero, suc, ◌<◌, ◌≤◌, List, [], ◌∷◌, ◌++◌, length, map, Some, refl, ap, ◌∙◌, reverse, take, drop, arith}
use Rattle.std.specs.Prelude.{slice_get, get_or}
use Rattle.std.proofs.lemmas.List.{reverse-append}
use Rattle.std.proofs.lemmas.Grind.{reverse_onto}
use Rattle.pat_semantics_laws.proofs.Lists.{map-append}

module _ {A : Type 0} where
  pub there : (xs : List A) (k : ℕ) → k < length xs → (x : A) × (slice_get xs k ≡ Some x)
  there [] k l = absurd (omega arith)
  there (x ∷ xs) zero l = (x, refl)
  there (x ∷ xs) (suc k) l = there xs k (omega arith)

  pub got : (xs : List A) (k : ℕ) (x d : A) → slice_get xs k ≡ Some x → get_or xs k d ≡ x
  got [] k x d h = cc
  got (z ∷ zs) zero x d h = let same : z ≡ x = cc in same
  got (z ∷ zs) (suc k) x d h = got zs k x d h

  pub split : (xs : List A) (k : ℕ) (x : A) → slice_get xs k ≡ Some x → xs ≡ take k xs ++ x ∷ drop (suc k) xs
  split [] k x h = cc
  split (z ∷ zs) zero x h = let same : z ≡ x = cc in ap (λ y. y ∷ zs) same
  split (z ∷ zs) (suc k) x h = ap (λ l. z ∷ l) (split zs k x h)

  pub take_one : (xs : List A) (k : ℕ) (x : A) → slice_get xs k ≡ Some x → take (suc k) xs ≡ take k xs ++ x ∷ []
  take_one [] k x h = cc
  take_one (z ∷ zs) zero x h = let same : z ≡ x = cc in ap (λ y. y ∷ []) same
  take_one (z ∷ zs) (suc k) x h = ap (λ l. z ∷ l) (take_one zs k x h)

  pub take_long : (xs : List A) (k : ℕ) → k ≤ length xs → length (take k xs) ≡ k
  take_long [] zero l = refl
  take_long [] (suc k) l = absurd (omega arith)
  take_long (z ∷ zs) zero l = refl
  take_long (z ∷ zs) (suc k) l = ap suc (take_long zs k (omega arith))

  pub take_whole : (xs : List A) (k : ℕ) → length xs ≤ k → take k xs ≡ xs
  take_whole [] zero l = refl
  take_whole [] (suc k) l = refl
  take_whole (z ∷ zs) zero l = absurd (omega arith)
  take_whole (z ∷ zs) (suc k) l = ap (λ l. z ∷ l) (take_whole zs k (omega arith))

module _ {A B : Type 0} (f : A → B) where
  joined : {C : Type 0} (xs : List C) (x : C) (ys : List C) → (xs ++ x ∷ []) ++ ys ≡ xs ++ x ∷ ys
  joined [] x ys = refl
  joined (z ∷ xs) x ys = ap (λ l. z ∷ l) (joined xs x ys)

  -- a list that is turned round and mapped, with one more behind it, and among others
  pub turned_more : (xs : List A) (x : A) → map f (reverse (xs ++ x ∷ [])) ≡ f x ∷ map f (reverse xs)
  turned_more xs x = ap (map f) (reverse-append xs (x ∷ []))

  pub turned_among : (xs : List A) (x : A) (zs : List A) → map f (reverse (xs ++ x ∷ zs)) ≡ map f (reverse zs) ++ f x ∷ map f (reverse xs)
  turned_among xs x zs =
      ap (map f) (reverse-append xs (x ∷ zs) ∙ ap (λ l. l ++ reverse xs) (reverse_onto zs x []) ∙ joined (reverse zs) x (reverse xs))
      ∙ map-append f (reverse zs) (x ∷ reverse xs)
