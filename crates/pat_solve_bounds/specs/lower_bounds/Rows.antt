-- Numbers of the items of a list, in a row for each key.
use Rattle.std.specs.Prelude.{ℕ, suc, Bool, false, nat_eq, if◌then◌else◌, List, [], ◌∷◌, ◌++◌, get_or, set, Option, Some, None}

-- the numbers of the items that pass the test, where the first item of all has number n
abbrev pub numbers : {A : Type 0} → (A → Bool) → ℕ → List A → List ℕ
numbers test n [] = []
numbers test n (x ∷ xs) = if test x then n ∷ numbers test (suc n) xs else numbers test (suc n) xs

-- the key is there, and is i
abbrev pub is_key : ℕ → Option ℕ → Bool
is_key i None = false
is_key i (Some r) = nat_eq r i

-- an item more at the end of the row, if there is such a row
abbrev pub put_at : {A : Type 0} → List (List A) → ℕ → A → List (List A)
put_at rows r x = set rows r (get_or rows r [] ++ x ∷ [])

-- the same where there is a key
abbrev pub put_key : {A : Type 0} → List (List A) → Option ℕ → A → List (List A)
put_key rows None x = rows
put_key rows (Some r) x = put_at rows r x

-- all numbers, each in the row of its item's key
abbrev pub put_all : {A : Type 0} → (A → Option ℕ) → ℕ → List A → List (List ℕ) → List (List ℕ)
put_all key n [] rows = rows
put_all key n (x ∷ xs) rows = put_all key (suc n) xs (put_key rows (key x) n)
