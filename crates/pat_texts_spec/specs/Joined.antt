-- Texts joined by a byte, and cut at one.
use Rattle.std.specs.Prelude.{ℕ, ◌==◌, ◌-◌, Bool, bytes_eq, take, drop, if◌then◌else◌, List, [], ◌∷◌, ◌++◌, length, Option, Some, None, option_map, option_and_then}
use Rattle.std.specs.List.{flat_map}

-- the texts, each but the first behind the byte
abbrev pub joined : ℕ → List (List ℕ) → List ℕ
joined c [] = []
joined c (x ∷ xs) = x ++ flat_map (λ y. c ∷ y) xs

-- what stands before the first such byte, and what behind it, if there is one
abbrev pub cut : ℕ → List ℕ → Option (List ℕ × List ℕ)
cut c [] = None
cut c (b ∷ bs) = if b == c then Some ([], bs) else option_map (λ r. (b ∷ r.0, r.1)) (cut c bs)

-- the first text with a byte more in front
abbrev pub with_first : ℕ → List (List ℕ) → List (List ℕ)
with_first b [] = (b ∷ []) ∷ []
with_first b (x ∷ xs) = (b ∷ x) ∷ xs

-- the bytes cut at each such byte
abbrev pub pieces : ℕ → List ℕ → List (List ℕ)
pieces c [] = [] ∷ []
pieces c (b ∷ bs) = if b == c then [] ∷ pieces c bs else with_first b (pieces c bs)

-- what each text reads as, if each is read
abbrev pub read_each : {A : Type 0} → (List ℕ → Option A) → List (List ℕ) → Option (List A)
read_each read [] = Some []
read_each read (x ∷ xs) = option_and_then (λ a. option_map (λ more. a ∷ more) (read_each read xs)) (read x)

-- what texts joined by a byte read as; no bytes are no text
abbrev pub read_joined : {A : Type 0} → ℕ → (List ℕ → Option A) → List ℕ → Option (List A)
read_joined c read [] = Some []
read_joined c read (b ∷ bs) = read_each read (pieces c (b ∷ bs))

-- what stands before these bytes, if the others end with them
abbrev pub before : List ℕ → List ℕ → Option (List ℕ)
before own bytes = if bytes_eq (drop (length bytes - length own) bytes) own then Some (take (length bytes - length own) bytes) else None

-- what was read, and what the others read as
abbrev pub then_read : {A : Type 0} → List A → Option (List A) → Option (List A)
then_read done o = option_map (λ more. done ++ more) o
