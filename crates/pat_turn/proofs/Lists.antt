-- Beginnings of a list, functions that are changed at one number, and sums over the views.
use Rattle.std.proofs.Common.{◌≡◌, ◌≢◌, ℕ, zero, suc, ◌+◌, ◌-◌, ◌<◌, ◌≤◌, eqb, ne_eqb, cond, Bool, true, false, List, [], ◌∷◌, ◌++◌, length, set, refl, ap, sym, ◌∙◌, subst, ⊎_elim, ◌⊎◌, inl, inr, arith, append_assoc, map, slice_get, get_or, Option, Some, None, eq-eqb, lt_of_not-le}
use Rattle.std.proofs.lemmas.List.{append-nil}
use Rattle.std.proofs.lemmas.List.Sums.{sum_by-cons}
use Rattle.std.proofs.lemmas.List.Elements.{All-head, All-tail, All-nil, All-cons, All-contains, Contains-append_right}
use Rattle.std.specs.List.{sum_by, All, Contains, remove}
use mathlib.Core.List.{IsPrefix}
use mathlib.Core.Logic.{dite}
use mathlib.Core.Option.{some, some-injective, some-ne-none}
use native.Mathlib.Decide.{ℕ_discrete, dec_le}
use lib.ListN.{get_elem?}
use Rattle.std.proofs.Math.Numerals.{add-one}
use Rattle.pat_turn.specs.Rule.{entries_naming}
use Rattle.pat_turn.specs.Shown.{ShownTurn, newcomer, newcomers}

module _ {A : Type 0} where
  -- each list begins with itself
  pub prefix_self : (xs : List A) → IsPrefix xs xs
  prefix_self xs = ([], append-nil xs)

  pub prefix_trans : (xs ys zs : List A) → IsPrefix xs ys → IsPrefix ys zs → IsPrefix xs zs
  prefix_trans xs ys zs p q = (p.0 ++ q.0, sym (append_assoc xs p.0 q.0) ∙ (ap (λ w. w ++ q.0) p.1 ∙ q.1))

  -- the function that is a at i, and else f
  pub put : (ℕ → A) → ℕ → A → ℕ → A
  put f i a j = dite (ℕ_discrete j i) (λ _. a) (λ _. f j)

  pub put_case : (P : A → Type 0) (f : ℕ → A) (i : ℕ) (a : A) (j : ℕ) → (j ≡ i → P a) → (j ≢ i → P (f j)) → P (put f i a j)
  unfolding put
  put_case P f i a j here else = go (ℕ_discrete j i)
    where
      go : (d : Dec (j ≡ i)) → P (dite d (λ _. a) (λ _. f j))
      go (yes e) = here e
      go (no n) = else n

  pub put_here : (f : ℕ → A) (i : ℕ) (a : A) → put f i a i ≡ a
  put_here f i a = put_case (λ x. x ≡ a) f i a i (λ _. refl) (λ n. absurd (n refl))

  pub put_else : (f : ℕ → A) (i : ℕ) (a : A) (j : ℕ) → j ≢ i → put f i a j ≡ f j
  put_else f i a j n = put_case (λ x. x ≡ f j) f i a j (λ e. absurd (n e)) (λ _. refl)

  pub at_below : (l : List A) (i : ℕ) (a : A) → get_elem? l i ≡ some a → i < length l
  at_below [] i a e = absurd (some-ne-none a (sym e))
  at_below (x ∷ xs) zero a e = omega arith
  at_below (x ∷ xs) (suc i) a e = let h = at_below xs i a e in omega (arith, h)

  -- an element of a list with one more at its end
  pub at_more : (l : List A) (a b : A) (j : ℕ) → get_elem? (l ++ a ∷ []) j ≡ some b → (get_elem? l j ≡ some b) ⊎ ((j ≡ length l) × (a ≡ b))
  at_more [] a b zero e = inr (refl, some-injective a b e)
  at_more [] a b (suc j) e = absurd (some-ne-none b (sym e))
  at_more (x ∷ xs) a b zero e = inl e
  at_more (x ∷ xs) a b (suc j) e = ⊎_elim (λ h. inl h) (λ t. inr (ap suc t.0, t.1)) (at_more xs a b j e)

  -- a sum after a change of one element
  pub sum_set : (f : A → ℕ) (l : List A) (i : ℕ) (a b : A) → get_elem? l i ≡ some a → sum_by f (set l i b) + f a ≡ sum_by f l + f b
  sum_set f [] i a b e = absurd (some-ne-none a (sym e))
  sum_set f (x ∷ xs) zero a b e = let same : f x ≡ f a = ap f (some-injective x a e) in omega (arith, sum_by-cons f x xs, sum_by-cons f b xs, same)
  sum_set f (x ∷ xs) (suc i) a b e = let rest = sum_set f xs i a b e in omega (arith, sum_by-cons f x xs, sum_by-cons f x (set xs i b), rest)

  pub sum_snoc : (f : A → ℕ) (l : List A) (b : A) → sum_by f (l ++ b ∷ []) ≡ sum_by f l + f b
  sum_snoc f [] b = omega (arith, sum_by-cons f b [])
  sum_snoc f (x ∷ xs) b = omega (arith, sum_by-cons f x xs, sum_by-cons f x (xs ++ b ∷ []), sum_snoc f xs b)

  pub sum_few : (f : A → ℕ) → ((a : A) → f a ≤ 1) → (l : List A) → sum_by f l ≤ length l
  sum_few f one [] = omega arith
  sum_few f one (x ∷ xs) = omega (arith, sum_by-cons f x xs, one x, sum_few f one xs)

-- entries that name n name no k but n
pub entries_none : {E : Type 0} (by : E → ℕ) (n k : ℕ) (es : List E) → All (λ (e : E). by e ≡ n) es → k ≢ n → entries_naming by k es ≡ []
entries_none by n k [] all other = refl
entries_none {E} by n k (e ∷ es) all other =
    let is : by e ≡ n = All-head (λ (x : E). by x ≡ n) e es all in
    let no : eqb (by e) k ≡ false = ne_eqb (by e) k (λ h. other (sym h ∙ is)) in
    ap (λ b. cond b (e ∷ entries_naming by k es) (entries_naming by k es)) no ∙ entries_none by n k es (All-tail (λ (x : E). by x ≡ n) e es all) other

-- one more newcomer
pub newcomers_more : {N E : Type 0} (t : ShownTurn N) (k n : ℕ) → newcomers {E = E} t k n ++ newcomer t (k + n) ∷ [] ≡ newcomers t k (n + 1)
newcomers_more {N} {E} t k n = rw add-one (go k n)
  where
    go : (k n : ℕ) → newcomers {E = E} t k n ++ newcomer t (k + n) ∷ [] ≡ newcomers t k (suc n)
    go k zero = ap (λ (j : ℕ). newcomer t j ∷ []) (omega arith)
    go k (suc n) = let e : k + suc n ≡ suc k + n = omega arith in ap (λ l. newcomer t k ∷ l) (ap (λ (j : ℕ). newcomers t (suc k) n ++ newcomer t j ∷ []) e ∙ go (suc k) n)

pub newcomers_cons : {N E : Type 0} (t : ShownTurn N) (k n : ℕ) → 0 < n → newcomers {E = E} t k n ≡ newcomer t k ∷ newcomers t (suc k) (n - 1)
newcomers_cons t k zero h = absurd (omega (arith, h))
newcomers_cons {N} {E} t k (suc n) h = let e : n ≡ suc n - 1 = omega arith in ap (λ (m : ℕ). newcomer t k ∷ newcomers {E = E} t (suc k) m) e

abbrev some_or : {A : Type 0} → A → Option A → A
some_or d None = d
some_or d (Some x) = x

pub some_is : {A : Type 0} {x y : A} → Some x ≡ Some y → x ≡ y
some_is {A} {x} {y} e = ap (some_or x) e

-- what is so of each element of an image
pub all_at : {A B : Type 0} (P : B → Type 0) (f : A → B) (ys : List A) (j : ℕ) (q : A) → All P (map f ys) → slice_get ys j ≡ Some q → P (f q)
all_at P f [] j q all e = absurd (cc e)
all_at {A} P f (y ∷ ys) zero q all e = subst (λ (a : A). P (f a)) (some_is e) (All-head P (f y) (map f ys) all)
all_at P f (y ∷ ys) (suc j) q all e = all_at P f ys j q (All-tail P (f y) (map f ys) all) e

pub get_there : {A : Type 0} (ys : List A) (j : ℕ) → j < length ys → (q : A) × (slice_get ys j ≡ Some q)
get_there [] j h = absurd (omega (arith, h))
get_there (y ∷ ys) zero h = (y, refl)
get_there (y ∷ ys) (suc j) h = get_there ys j (omega (arith, h))

skipped : {E : Type 0} (b : Bool) (e : E) (es : List E) → cond b (e ∷ es) es ≡ [] → es ≡ []
skipped true e es h = absurd (cc h)
skipped false e es h = h

named : {E : Type 0} (b : Bool) (e : E) (es : List E) → b ≡ true → cond b (e ∷ es) es ≡ [] → ⊥
named true e es t h = cc h
named false e es t h = cc t

-- where no number from n on has an entry, each entry names a number below n
pub named_below : {E : Type 0} (by : E → ℕ) (n : ℕ) (log : List E) → ((k : ℕ) → n ≤ k → entries_naming by k log ≡ []) → All (λ (e : E). by e < n) log
named_below {E} by n [] none = All-nil (λ (e : E). by e < n)
named_below {E} by n (e ∷ es) none = All-cons (λ (x : E). by x < n) e es
    (go (dec_le n (by e)))
    (named_below by n es (λ k le. skipped (eqb (by e) k) e (entries_naming by k es) (none k le)))
  where
    go : Dec (n ≤ by e) → by e < n
    go (yes le) = absurd (named (eqb (by e) (by e)) e (entries_naming by (by e) es) (eq-eqb (by e) (by e) refl) (none (by e) le))
    go (no more) = lt_of_not-le more

-- what is so of each element is so of the first of those that are left
pub all_amid : {A : Type 0} (P : A → Type 0) (xs rest ys more : List A) (x : A) → All P ys → xs ++ rest ≡ ys → rest ≡ x ∷ more → P x
all_amid {A} P xs rest ys more x all whole e =
    All-contains P ys x all (subst (λ (zs : List A). Contains zs x) (ap (λ l. xs ++ l) (sym e) ∙ whole) (Contains-append_right xs (x ∷ more) x (0, omega arith, refl)))

pub map_snoc : {A B : Type 0} (f : A → B) (xs : List A) (x : A) → map f (xs ++ x ∷ []) ≡ map f xs ++ f x ∷ []
map_snoc f [] x = refl
map_snoc f (y ∷ ys) x = ap (λ l. f y ∷ l) (map_snoc f ys x)

pub rest_all : {A : Type 0} (P : A → Type 0) (ys : List A) → ((j : ℕ) (q : A) → slice_get ys j ≡ Some q → P q) → All P ys
rest_all P [] h = All-nil P
rest_all P (y ∷ ys) h = All-cons P y ys (h 0 y refl) (rest_all P ys (λ j q e. h (suc j) q e))

-- what is left once the first was taken out
pub split_first : {A : Type 0} (ys rest : List A) (x : A) → 0 < length ys → x ≡ get_or ys 0 x → rest ≡ remove ys 0 → ys ≡ x ∷ rest
split_first [] rest x h value items = absurd (omega (arith, h))
split_first (y ∷ ys) rest x h value items = λ i. sym value i ∷ sym items i
