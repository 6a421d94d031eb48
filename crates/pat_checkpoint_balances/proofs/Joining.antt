-- Products by neighbours, joined until one pattern is left.
use Rattle.std.proofs.Common.{◌≡◌, ℕ, zero, suc, ◌+◌, ◌<◌, ◌≤◌, List, [], ◌∷◌, ◌++◌, length, map, refl, sym, ap, arith}
use Rattle.std.proofs.lemmas.List.{length-map}
use Rattle.pat_words_spec.specs.Patterns.{Pat, One}
use Rattle.pat_patterns.specs.declared.pattern.Pattern.{Pattern}
use Rattle.pat_patterns.specs.Views.{pattern_view, patterns_view}
use Rattle.pat_checkpoint_spec.specs.Balances.{paired, joined_within, product_of}

not_longer : (es : List Pat) → length (paired es) ≤ length es
not_longer [] = omega arith
not_longer (e ∷ []) = omega arith
not_longer (e ∷ f ∷ rest) = let h = not_longer rest in omega arith

-- as often as there are patterns is often enough
enough : (n m : ℕ) (es : List Pat) → length es ≤ n → length es ≤ m → joined_within n es ≡ joined_within m es
enough zero zero es a b = refl
enough zero (suc m) [] a b = refl
enough zero (suc m) (e ∷ es) a b = absurd (omega arith)
enough (suc n) zero [] a b = refl
enough (suc n) zero (e ∷ es) a b = absurd (omega arith)
enough (suc n) (suc m) [] a b = refl
enough (suc n) (suc m) (e ∷ []) a b = refl
enough (suc n) (suc m) (e ∷ f ∷ rest) a b =
    let h = not_longer rest in enough n m (paired (e ∷ f ∷ rest)) (omega arith) (omega arith)

pub same_product : (es : List Pat) → product_of (paired es) ≡ product_of es
same_product [] = refl
same_product (e ∷ []) = refl
same_product (e ∷ f ∷ rest) =
    let h = not_longer rest in
    enough (length (paired (e ∷ f ∷ rest))) (suc (length rest)) (paired (e ∷ f ∷ rest)) (omega arith) (omega arith)

pub fewer : (es : List Pat) → 1 < length es → length (paired es) < length es
fewer [] h = absurd (omega arith)
fewer (e ∷ []) h = absurd (omega arith)
fewer (e ∷ f ∷ rest) h = let k = not_longer rest in omega arith

-- one round of the loop
pub fewer_patterns : (old new : List Pattern) → patterns_view new ≡ paired (patterns_view old) → 1 < length old → length new < length old
fewer_patterns old new h more =
    let counted = length-map old pattern_view in
    let made = length-map new pattern_view in
    let shorter = fewer (patterns_view old) (omega arith) in
    let same = ap length h in
    omega arith

pub nothing_left : (es : List Pattern) → es ≡ [] → One ≡ product_of (patterns_view es)
nothing_left es h = sym (ap (λ l. product_of (patterns_view l)) h)

pub one_left : (es rest : List Pattern) (x : Pattern) → es ≡ rest ++ x ∷ [] → length es ≤ 1 → pattern_view x ≡ product_of (patterns_view es)
one_left es [] x h few = sym (ap (λ l. product_of (patterns_view l)) h)
one_left es (r ∷ []) x h few = absurd (let n = ap length h in omega arith)
one_left es (r ∷ s ∷ rest) x h few = absurd (let n = ap length h in omega arith)
