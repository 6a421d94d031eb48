-- Frames from the last one up, one more of them, and tests of all.
use Rattle.std.proofs.Common.{◌≡◌, ℕ, zero, suc, ◌+◌, ◌<◌, Bool, true, false, ◌&&◌, List, [], ◌∷◌, length, take, get_or, map, reverse, refl, sym, ap, ◌∙◌, arith}
use Rattle.std.specs.List.{list_all}
use Rattle.std.proofs.lemmas.Bool.{and_parts}
use Rattle.std.proofs.lemmas.List.{take_more, map-append, reverse-append}
use Rattle.std.proofs.lemmas.List.Folds.{list_all-append}

and_swap : (a b : Bool) → (a && b) ≡ (b && a)
and_swap true true = refl
and_swap true false = refl
and_swap false true = refl
and_swap false false = refl

and_true : (a : Bool) → (a && true) ≡ a
and_true true = refl
and_true false = refl

module _ {A : Type 0} where
  -- one more, seen from the last one up, stands in front of those before it
  pub one_more : (xs : List A) (i : ℕ) (x : A) → i < length xs → x ≡ get_or xs i x → reverse (take (i + 1) xs) ≡ x ∷ reverse (take i xs)
  one_more xs i x h is =
      ap reverse (take_more xs i x h)
      ∙ reverse-append (take i xs) (get_or xs i x ∷ [])
      ∙ ap (λ y. y ∷ reverse (take i xs)) (sym is)

module _ {A B : Type 0} (p : B → Bool) (f : A → B) where
  -- whether all pass, whatever the order
  pub all_reversed : (xs : List A) → list_all p (map f (reverse xs)) ≡ list_all p (map f xs)
  all_reversed [] = refl
  all_reversed (x ∷ xs) =
      ap (λ l. list_all p (map f l)) (reverse-append (x ∷ []) xs)
      ∙ ap (list_all p) (map-append f (reverse xs) (x ∷ []))
      ∙ list_all-append p (map f (reverse xs)) (f x ∷ [])
      ∙ ap (λ b. list_all p (map f (reverse xs)) && b) (and_true (p (f x)))
      ∙ and_swap (list_all p (map f (reverse xs))) (p (f x))
      ∙ ap (λ b. p (f x) && b) (all_reversed xs)

  -- what all pass, the one at a place does
  pub all_at : (xs : List A) (i : ℕ) (d : A) → list_all p (map f xs) ≡ true → i < length xs → p (f (get_or xs i d)) ≡ true
  all_at [] i d h l = absurd (omega arith)
  all_at (x ∷ xs) zero d h l = (and_parts (p (f x)) (list_all p (map f xs)) h).0
  all_at (x ∷ xs) (suc i) d h l = all_at xs i d (and_parts (p (f x)) (list_all p (map f xs)) h).1 (omega arith)

-- a test of frames from the last one up, behind a test that passes
pub frames_too : {A B : Type 0} (p : B → Bool) (f : A → B) (slice frames : List A) (k r : Bool) → r ≡ list_all p (map f slice) → reverse slice ≡ frames → k ≡ true → r ≡ (k && list_all p (map f frames))
frames_too p f slice frames k r is same sure =
    is ∙ sym (all_reversed p f slice) ∙ ap (λ l. list_all p (map f l)) same ∙ sym (ap (λ b. b && list_all p (map f frames)) sure)

-- and what frames pass where both tests do
pub frames_pass : {A B : Type 0} (p : B → Bool) (f : A → B) (slice frames : List A) (k : Bool) → reverse slice ≡ frames → (k && list_all p (map f frames)) ≡ true → list_all p (map f slice) ≡ true
frames_pass p f slice frames k same h =
    sym (all_reversed p f slice) ∙ ap (λ l. list_all p (map f l)) same ∙ (and_parts k (list_all p (map f frames)) h).1
