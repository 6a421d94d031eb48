-- Lists that are seen from their ends.
use Rattle.std.proofs.Common.{◌≡◌, ℕ, ◌-◌, ◌<◌, ◌≤◌, List, ◌++◌, length, take, drop, reverse, sym, ap, ◌∙◌, arith, ⊎_elim}
use Rattle.std.proofs.lemmas.Bool.{cases_lt}
use Rattle.std.proofs.lemmas.List.{take-append-drop, drop_all, length-drop, length-reverse, reverse-append}
use Rattle.std.proofs.Math.Seq.{drop-append_seam}

-- seen from the end, the list without its last items is the list without its first ones
pub reversed_start : {X : Type 0} (xs : List X) (n : ℕ) → reverse (take (length xs - n) xs) ≡ drop n (reverse xs)
reversed_start xs n =
    ⊎_elim
    (λ (many : length xs < n).
    let none : length xs - n ≡ 0 = omega arith in
    let same = length-reverse xs in
    ap (λ k. reverse (take k xs)) none ∙ sym (drop_all n (reverse xs) (omega arith)))
    (λ (few : n ≤ length xs).
    let k = length xs - n in
    let split : reverse xs ≡ reverse (drop k xs) ++ reverse (take k xs) = sym (ap reverse (take-append-drop k xs)) ∙ reverse-append (take k xs) (drop k xs) in
    let ends : length (reverse (drop k xs)) ≡ n = length-reverse (drop k xs) ∙ length-drop k xs ∙ omega arith in
    sym (ap (drop n) split ∙ ap (λ m. drop m (reverse (drop k xs) ++ reverse (take k xs))) (sym ends) ∙ drop-append_seam (reverse (drop k xs)) (reverse (take k xs))))
    (cases_lt (length xs) n)

-- other items behind its start
pub covered : {X : Type 0} (xs top : List X) (n : ℕ) → reverse (take (length xs - n) xs ++ top) ≡ reverse top ++ drop n (reverse xs)
covered xs top n = reverse-append (take (length xs - n) xs) top ∙ ap (λ l. reverse top ++ l) (reversed_start xs n)
