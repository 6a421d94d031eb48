-- Sets as words of bits.
use Rattle.std.specs.Prelude.{◌≡◌, ℕ, ◌+◌, ◌-◌, ◌<◌, ◌⊎◌, ◌/◌, ◌%◌, List, [], length, get_or}
use Rattle.std.specs.Int.{bit_at}

-- the word has the bit
abbrev pub In : List ℕ → ℕ → ℕ → Type 0
In words h q = bit_at (get_or words h 0) q ≡ 1

-- bits were put in: just those of which P holds
pub record Puts (P : ℕ → ℕ → Type 0) (old new : List ℕ) : Type 0 where
  pub as_long : length new ≡ length old
  pub kept : (h q : ℕ) → In old h q → In new h q
  pub put : (h q : ℕ) → P h q → In new h q
  pub only : (h q : ℕ) → In new h q → In old h q ⊎ P h q

-- one of the first m says so
abbrev pub AnyBefore : (ℕ → ℕ → ℕ → Type 0) → ℕ → ℕ → ℕ → Type 0
AnyBefore P m h q = (i : ℕ) × (i < m) × P i h q

-- the number is in the list
abbrev pub IsListed : ℕ → List ℕ → Type 0
IsListed c numbers = (i : ℕ) × (i < length numbers) × (get_or numbers i 0 ≡ c)

-- the place of the i-th number
abbrev pub AtNumber : List ℕ → ℕ → ℕ → ℕ → ℕ → Type 0
AtNumber numbers width i h q = (h ≡ get_or numbers i 0 / width) × (q ≡ get_or numbers i 0 % width)

-- of the numbers below m, those at whose place there is a bit are listed
pub record Lists (words : List ℕ) (width m : ℕ) (numbers : List ℕ) : Type 0 where
  pub all : (c : ℕ) → c < m → In words (c / width) (c % width) → IsListed c numbers
  pub only : (i : ℕ) → i < length numbers → (get_or numbers i 0 < m) × In words (get_or numbers i 0 / width) (get_or numbers i 0 % width)

-- the word's bit p goes where the row says
abbrev pub IsMoved : List ℕ → List ℕ → ℕ → ℕ → ℕ → ℕ → Type 0
IsMoved others row word p h q = In others word p × (h ≡ word) × (q ≡ get_or row p 0)

-- so do all bits of the word
abbrev pub IsMovedAny : List ℕ → List ℕ → ℕ → ℕ → ℕ → Type 0
IsMovedAny others row word h q = AnyBefore (IsMoved others row word) (length row) h q

-- the row brings place p so much farther
abbrev pub GoesBy : List ℕ → ℕ → ℕ → ℕ → Type 0
GoesBy row p by q = (by ≡ get_or row p 0 - p) × (q ≡ p)

-- those of the word's bits that the mask has go so much farther
abbrev pub IsShifted : List ℕ → ℕ → ℕ → ℕ → ℕ → ℕ → Type 0
IsShifted others mask by word h q = (h ≡ word) × ((p : ℕ) × In others word p × (bit_at mask p ≡ 1) × (q ≡ p + by))

-- so do those of all words, by the mask at the place
abbrev pub IsShiftedAny : List ℕ → List ℕ → ℕ → ℕ → ℕ → Type 0
IsShiftedAny others masks by h q = AnyBefore (IsShifted others (get_or masks by 0) by) (length others) h q

-- the bits of the p-th word from a place on are as far behind the base as the row says
abbrev pub IsJoined : List ℕ → ℕ → ℕ → List ℕ → ℕ → ℕ → ℕ → Type 0
IsJoined words from base row p h q = (h ≡ base + get_or row p 0) × In words (from + p) q

-- those that were moved by bit l of the word
abbrev pub IsAdded : List ℕ → ℕ → List (List ℕ) → ℕ → ℕ → ℕ → Type 0
IsAdded ones word moved l h q = In ones word l × In (get_or moved l []) h q
