-- A front of a text that grows.
use Rattle.std.proofs.Common.{◌≡◌, ◌+◌, ◌-◌, ℕ, List, ◌++◌, length, take, drop, ap, sym, ◌∙◌, arith}
use Rattle.std.proofs.lemmas.List.{take_rest, take-take, drop-take, take-append-drop}

pub front_more : (text : List ℕ) (d n : ℕ) → take d text ++ take n (take (length text - d) (drop d text)) ≡ take (d + n) text
front_more text d n =
    ap (λ l. take d text ++ take n l) (take_rest text d)
    ∙ ap (λ l. l ++ take n (drop d text)) (sym (take-take d (d + n) text (omega arith)))
    ∙ ap (λ l. take d (take (d + n) text) ++ l) (sym (drop-take d n text))
    ∙ take-append-drop d (take (d + n) text)
