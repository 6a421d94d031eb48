-- Runs of what passes a test.
use Rattle.std.proofs.Common.{◌≡◌, ◌<◌, ◌≤◌, ◌+◌, ℕ, zero, suc, Bool, true, false, List, [], ◌∷◌, ◌++◌, length, take, drop, get_or, refl, sym, subst, arith}
use Rattle.std.proofs.lemmas.List.{take_more, drop_more, drop_all}
use Rattle.pat_lexer_spec.specs.Characters.{Each, FrontFails}

pub both : (b : Bool) → b ≡ true → b ≡ false → ⊥
both b t f = cc

pub Each-append : (p : ℕ → Bool) (xs ys : List ℕ) → Each p xs → Each p ys → Each p (xs ++ ys)
Each-append p [] ys a b = b
Each-append p (x ∷ xs) ys a b = (a.0, Each-append p xs ys a.1 b)

pub Each-front : (p : ℕ → Bool) (xs ys : List ℕ) → Each p (xs ++ ys) → Each p xs
Each-front p [] ys a = tt
Each-front p (x ∷ xs) ys a = (a.0, Each-front p xs ys a.1)

pub Each-rest : (p : ℕ → Bool) (xs ys : List ℕ) → Each p (xs ++ ys) → Each p ys
Each-rest p [] ys a = a
Each-rest p (x ∷ xs) ys a = Each-rest p xs ys a.1

-- what passes one test passes another that follows from it
pub Each-weaker : (p q : ℕ → Bool) → ((x : ℕ) → p x ≡ true → q x ≡ true) → (xs : List ℕ) → Each p xs → Each q xs
Each-weaker p q w [] a = tt
Each-weaker p q w (x ∷ xs) a = (w x a.0, Each-weaker p q w xs a.1)

-- the front of a longer text fails where some text's front does
pub front_fails_on : (p : ℕ → Bool) (b : ℕ) (xs ys : List ℕ) → FrontFails p (b ∷ xs) → FrontFails p (b ∷ ys)
front_fails_on p b xs ys f = f

-- a run that passes, and what follows it, are one in each list
pub split_once : (p : ℕ → Bool) (xs ys xs' ys' : List ℕ) → Each p xs → FrontFails p ys → Each p xs' → FrontFails p ys' → xs ++ ys ≡ xs' ++ ys' → (xs ≡ xs') × (ys ≡ ys')
split_once p [] ys [] ys' a f a' f' e = (refl, e)
split_once p [] ys (x' ∷ xs') ys' a f a' f' e = let g : FrontFails p (x' ∷ (xs' ++ ys')) = subst (FrontFails p) e f in absurd (both (p x') a'.0 g)
split_once p (x ∷ xs) ys [] ys' a f a' f' e = let g : FrontFails p (x ∷ (xs ++ ys)) = subst (FrontFails p) (sym e) f' in absurd (both (p x) a.0 g)
split_once p (x ∷ xs) ys (x' ∷ xs') ys' a f a' f' e =
    let heads : x ≡ x' = cc in
    let tails : xs ++ ys ≡ xs' ++ ys' = cc in
    let more = split_once p xs ys xs' ys' a.1 f a'.1 f' tails in
    let fronts : xs ≡ xs' = more.0 in
    (cc, more.1)

pub each_more : (p : ℕ → Bool) (xs : List ℕ) (i : ℕ) → i < length xs → Each p (take i xs) → p (get_or xs i 0) ≡ true → Each p (take (i + 1) xs)
each_more p xs i within each passes = subst (Each p) (sym (take_more xs i 0 within)) (Each-append p (take i xs) (get_or xs i 0 ∷ []) each (passes, tt))

pub each_at : (p : ℕ → Bool) (xs : List ℕ) (i : ℕ) → Each p xs → i < length xs → p (get_or xs i 0) ≡ true
each_at p [] i each within = absurd (omega arith)
each_at p (x ∷ xs) zero each within = each.0
each_at p (x ∷ xs) (suc i) each within = each_at p xs i each.1 (omega arith)

pub fails_at : (p : ℕ → Bool) (xs : List ℕ) (i : ℕ) → i < length xs → p (get_or xs i 0) ≡ false → FrontFails p (drop i xs)
fails_at p xs i within fails = subst (FrontFails p) (sym (drop_more xs i 0 within)) fails

-- at the end nothing fails
pub fails_past : (p : ℕ → Bool) (xs : List ℕ) (i : ℕ) → length xs ≤ i → FrontFails p (drop i xs)
fails_past p xs i past = subst (FrontFails p) (sym (drop_all i xs past)) tt

pub push_some : (xs : List ℕ) (b : ℕ) → xs ++ b ∷ [] ≡ [] → ⊥
push_some [] b nil = cc
push_some (x ∷ xs) b nil = cc
