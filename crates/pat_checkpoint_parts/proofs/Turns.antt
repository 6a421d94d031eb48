-- Turns of loops over lists, and the last item of a list.
use Rattle.std.proofs.Common.{◌≡◌, ℕ, suc, ◌+◌, ◌-◌, ◌<◌, Bool, true, false, ◌&&◌, List, [], ◌∷◌, ◌++◌, length, drop, get_or, slice_get, map, reverse, Option, Some, None, IfSome, option_copied, sym, ap, ◌∙◌, arith}
use Rattle.std.specs.Borrow.{Bor}
use Rattle.std.specs.List.{list_all}
use Rattle.std.proofs.lemmas.Bool.{and_parts}
use Rattle.std.proofs.lemmas.List.{drop_more, reverse-append}
use Rattle.pat_checkpoint_numbers.proofs.Reversed.{all_at}

-- what is left from a place on begins with the item there
pub left_at : {A : Type 0} (xs : List A) (k : ℕ) (x : A) → k < length xs → x ≡ get_or xs k x → drop k xs ≡ x ∷ drop (k + 1) xs
left_at xs k x less at = drop_more xs k x less ∙ ap (λ z. z ∷ drop (k + 1) xs) (sym at)

-- a test of all items that are left
module _ {A B : Type 0} (test : B → Bool) (view : A → B) (xs : List A) (k : ℕ) (x : A) (less : k < length xs) (at : x ≡ get_or xs k x) where
  all_from : list_all test (map view (drop k xs)) ≡ (test (view x) && list_all test (map view (drop (k + 1) xs)))
  all_from = ap (λ l. list_all test (map view l)) (left_at xs k x less at)

  pub one_fails : (whole : Bool) → list_all test (map view (drop k xs)) ≡ whole → test (view x) ≡ false → false ≡ whole
  one_fails whole h out = sym (all_from ∙ ap (λ b. b && list_all test (map view (drop (k + 1) xs))) out) ∙ h

  pub one_passes : (whole : Bool) → list_all test (map view (drop k xs)) ≡ whole → test (view x) ≡ true → list_all test (map view (drop (k + 1) xs)) ≡ whole
  one_passes whole h pass = sym (all_from ∙ ap (λ b. b && list_all test (map view (drop (k + 1) xs))) pass) ∙ h

  pub others_pass : list_all test (map view (drop k xs)) ≡ true → list_all test (map view (drop (k + 1) xs)) ≡ true
  others_pass h = (and_parts (test (view x)) (list_all test (map view (drop (k + 1) xs))) (sym all_from ∙ h)).1

  -- what all pass, the item does
  pub all_here : list_all test (map view xs) ≡ true → test (view x) ≡ true
  all_here h = ap (λ z. test (view z)) at ∙ all_at test view xs k x h less

-- seen from its end, the list begins with its last item
last_first : {A : Type 0} (xs : List A) (x : A) → slice_get xs (length xs - 1) ≡ Some x → (rest : List A) × (reverse xs ≡ x ∷ rest)
last_first [] x h = cc
last_first (y ∷ []) x h = let same : y ≡ x = cc in ([], ap (λ z. z ∷ []) same)
last_first (y ∷ z ∷ zs) x h =
    let count : length (y ∷ z ∷ zs) - 1 ≡ suc (length (z ∷ zs) - 1) = omega arith in
    let more = last_first (z ∷ zs) x (sym (ap (slice_get (y ∷ z ∷ zs)) count) ∙ h) in
    (more.0 ++ y ∷ [], reverse-append (y ∷ []) (z ∷ zs) ∙ ap (λ l. l ++ y ∷ []) more.1)

pub top_there : {A : Type 0} (xs : List A) (o : Option (Bor A)) → option_copied o ≡ slice_get xs (length xs - 1) → IfSome o (λ x. (rest : List A) × (reverse xs ≡ x.now ∷ rest))
top_there xs None h = tt
top_there xs (Some x) h = last_first xs x.now (sym h)
