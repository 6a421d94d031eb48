-- The numbers that digits write.
use Rattle.std.proofs.Common.{◌≡◌, ◌+◌, ◌-◌, ◌*◌, ◌<◌, ◌≤◌, ℕ, List, [], ◌∷◌, ◌++◌, length, take, drop, get_or, refl, ap, sym, subst, ◌∙◌, arith}
use Rattle.std.proofs.lemmas.List.{take_more, take-append-drop}
use Rattle.pat_lexer_spec.specs.Characters.{number_after}

pub number_push : (n : ℕ) (xs : List ℕ) (b : ℕ) → number_after n (xs ++ b ∷ []) ≡ 10 * number_after n xs + (b - 48)
number_push n [] b = refl
number_push n (x ∷ xs) b = number_push (10 * n + (x - 48)) xs b

pub number_grows : (n : ℕ) (xs : List ℕ) → n ≤ number_after n xs
number_grows n [] = omega arith
number_grows n (x ∷ xs) = let more = number_grows (10 * n + (x - 48)) xs in omega arith

pub number_parts : (n : ℕ) (xs ys : List ℕ) → number_after n (xs ++ ys) ≡ number_after (number_after n xs) ys
number_parts n [] ys = refl
number_parts n (x ∷ xs) ys = number_parts (10 * n + (x - 48)) xs ys

-- one digit more
pub number_more : (n : ℕ) (xs : List ℕ) (i : ℕ) → i < length xs → number_after n (take (i + 1) xs) ≡ 10 * number_after n (take i xs) + (get_or xs i 0 - 48)
number_more n xs i within = ap (number_after n) (take_more xs i 0 within) ∙ number_push n (take i xs) (get_or xs i 0)

-- the number of a front is no greater
pub number_front : (n : ℕ) (xs : List ℕ) (i : ℕ) → number_after n (take i xs) ≤ number_after n xs
number_front n xs i = subst (λ l. number_after n (take i xs) ≤ number_after n l) (take-append-drop i xs) (subst (λ m. number_after n (take i xs) ≤ m) (sym (number_parts n (take i xs) (drop i xs))) (number_grows (number_after n (take i xs)) (drop i xs)))
