-- Pieces that are written one after another.
use Rattle.std.proofs.Common.{◌≡◌, ℕ, suc, ◌+◌, ◌-◌, ◌<◌, List, ◌++◌, sym, ap, ◌∙◌, subst, refl, arith, append_assoc}
use Rattle.pat_load.specs.LoadText.{each_from}

-- a piece, and then more
pub followed : (a b c x r : List ℕ) → b ≡ a ++ x → c ≡ b ++ r → c ≡ a ++ (x ++ r)
followed a b c x r first more = more ∙ ap (λ t. t ++ r) first ∙ append_assoc a x r

first_of : (text : ℕ → List ℕ) (i n : ℕ) → each_from text i (suc n) ≡ text i ++ each_from text (suc i) n
first_of text i n = refl

-- one more text is written, and so much less is left
pub one_more : (text : ℕ → List ℕ) (old new whole : List ℕ) (i n : ℕ) → i < n → old ++ each_from text (i + 1) (n - i) ≡ whole → new ≡ old ++ text (i + 1) → new ++ each_from text (i + 1 + 1) (n - (i + 1)) ≡ whole
one_more text old new whole i n within was is =
    let left : n - i ≡ suc (n - (i + 1)) = omega arith in
    let next : i + 1 + 1 ≡ suc (i + 1) = omega arith in
    let rest : List ℕ = each_from text (suc (i + 1)) (n - (i + 1)) in
    let split : old ++ each_from text (i + 1) (suc (n - (i + 1))) ≡ whole = subst (λ k. old ++ each_from text (i + 1) k ≡ whole) left was in
    ap (λ k. new ++ each_from text k (n - (i + 1))) next
    ∙ ap (λ t. t ++ rest) is
    ∙ append_assoc old (text (i + 1)) rest
    ∙ sym (ap (λ t. old ++ t) (first_of text (i + 1) (n - (i + 1))))
    ∙ split
