-- Texts cut at a byte where it stands in no string.
use Rattle.std.specs.Prelude.{ℕ, ◌==◌, Bool, false, if◌then◌else◌, List, [], ◌∷◌, map, Option, Some, None, option_map, option_and_then}
use Rattle.pat_texts_spec.specs.Fronts.{behind}
use Rattle.pat_texts_spec.specs.Joined.{joined, with_first, read_each}

-- where a byte stands: in no string, in a string, or behind a backslash in one
pub data Place : Type 0 where
  Outside : Place
  Inside : Place
  Escaped : Place

-- where the next byte stands
abbrev pub next_place : Place → ℕ → Place
next_place Outside b = if b == 34 then Inside else Outside
next_place Inside b = if b == 34 then Outside else if b == 92 then Escaped else Inside
next_place Escaped b = Inside

-- whether the text is cut at a byte here: it is the one that is looked for, and stands in no string
abbrev pub is_cut : Place → ℕ → ℕ → Bool
is_cut Outside c b = b == c
is_cut Inside c b = false
is_cut Escaped c b = false

-- what stands before the first such byte, and what behind it, if there is one
abbrev pub cut_from : Place → ℕ → List ℕ → Option (List ℕ × List ℕ)
cut_from q c [] = None
cut_from q c (b ∷ bs) = if is_cut q c b then Some ([], bs) else option_map (λ r. (b ∷ r.0, r.1)) (cut_from (next_place q b) c bs)

abbrev pub cut_outside : ℕ → List ℕ → Option (List ℕ × List ℕ)
cut_outside c bytes = cut_from Outside c bytes

-- the bytes cut at each such byte
abbrev pub pieces_from : Place → ℕ → List ℕ → List (List ℕ)
pieces_from q c [] = [] ∷ []
pieces_from q c (b ∷ bs) = if is_cut q c b then [] ∷ pieces_from Outside c bs else with_first b (pieces_from (next_place q b) c bs)

abbrev pub pieces_outside : ℕ → List ℕ → List (List ℕ)
pieces_outside c bytes = pieces_from Outside c bytes

-- ---- lists with a comma and a space between

-- the texts of a list, each but the first behind a comma and a space
abbrev pub listed : {A : Type 0} → (A → List ℕ) → List A → List ℕ
listed text [] = []
listed text (a ∷ more) = joined 44 (text a ∷ map (λ b. 32 ∷ text b) more)

-- what is read behind a space
abbrev pub read_spaced : {A : Type 0} → (List ℕ → Option A) → List ℕ → Option A
read_spaced read bytes = option_and_then read (behind (32 ∷ []) bytes)

-- the first, and the others behind a space each
abbrev pub read_all : {A : Type 0} → (List ℕ → Option A) → List (List ℕ) → Option (List A)
read_all read [] = Some []
read_all read (x ∷ xs) = option_and_then (λ a. option_map (λ more. a ∷ more) (read_each (read_spaced read) xs)) (read x)

-- what texts with commas and spaces between read as; no bytes are no text
abbrev pub read_listed : {A : Type 0} → (List ℕ → Option A) → List ℕ → Option (List A)
read_listed read [] = Some []
read_listed read (b ∷ bs) = read_all read (pieces_outside 44 (b ∷ bs))
