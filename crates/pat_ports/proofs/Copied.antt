-- A read that copies the front of what is left.
use Rattle.std.proofs.Common.{◌≡◌, ◌+◌, ◌-◌, ◌<◌, ◌≤◌, ℕ, List, [], ◌++◌, length, take, drop, min, ap, sym, ◌∙◌, arith}
use Rattle.std.proofs.lemmas.List.{take_at, take-append-drop, length-take, drop-drop, drop_all, take_rest}

-- the front of what was copied to is what was copied
pub front : (rest old new : List ℕ) (n : ℕ) → n ≤ length rest → new ≡ take n rest ++ drop n old → take n new ≡ take n rest
front rest old new n le e = ap (take n) e ∙ take_at (take n rest) (drop n old) n (length-take n rest ∙ omega arith)

-- what stands from a place on, as a slice
pub tail : (bytes slice : List ℕ) (at : ℕ) → slice ≡ bytes → take (length slice - at) (drop at slice) ≡ drop at bytes
tail bytes slice at e = ap (λ l. take (length l - at) (drop at l)) e ∙ take_rest bytes at

-- a read that copies the front of what is left consumes it, and gives nothing only at the end or to no buffer
pub consumed : (rest bytes left old new : List ℕ) (at piece n : ℕ) → rest ≡ drop at bytes → left ≡ drop at bytes → 0 < piece → n ≡ min (min (length left) (length old)) piece → length new ≡ length old → new ≡ take n left ++ drop n old
    → (rest ≡ take n new ++ drop (at + n) bytes) × (n ≡ 0 → 0 < length new → drop (at + n) bytes ≡ [])
consumed rest bytes left old new at piece n whole is some count same copied =
    let le : n ≤ length left = omega arith in (
      whole ∙ sym is ∙ sym (take-append-drop n left) ∙ ap (λ l. l ++ drop n left) (sym (front left old new n le copied)) ∙ ap (λ l. take n new ++ drop n l) is ∙ ap (λ l. take n new ++ l) (drop-drop n at bytes),
      λ none room. sym (drop-drop n at bytes) ∙ ap (drop n) (sym is) ∙ drop_all n left (omega arith),
    )
