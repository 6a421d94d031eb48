-- Lists most of whose items are the same, as blocks.
use Rattle.std.specs.Prelude.{◌≡◌, ℕ, zero, suc, ◌+◌, ◌*◌, ◌/◌, ◌%◌, ◌^◌, ◌<◌, ◌≤◌, ◌⊎◌, List, [], ◌∷◌, length, get_or}

-- so many items, by their places
abbrev pub by_places : {A : Type 0} → ℕ → (ℕ → A) → List A
by_places zero f = []
by_places (suc n) f = f 0 ∷ by_places n (λ i. f (suc i))

-- where an item stands among the blocks
abbrev pub spot : List ℕ → ℕ → ℕ
spot starts i = get_or starts (i / 16) 0 * 16 + i % 16

-- so many items: those of each block stand where it starts
abbrev pub sparse : {A : Type 0} → ℕ → A → List ℕ → List A → List A
sparse count common starts blocks = by_places count (λ i. get_or blocks (spot starts i) common)

-- block 0 has the common item alone, and stands for each block that has nothing else; the others stand for one each
pub record AreBlocks {A : Type 0} (count : ℕ) (common : A) (starts : List ℕ) (blocks : List A) : Type 0 where
  pub fits : count < 2 ^ 64
  pub as_many : length starts ≡ count / 16 + 1
  pub whole : length blocks / 16 * 16 ≡ length blocks
  pub within : (a : ℕ) → get_or starts a 0 * 16 + 16 ≤ length blocks
  pub shared : (i : ℕ) → i < 16 → get_or blocks i common ≡ common
  pub apart : (a b : ℕ) → get_or starts a 0 ≡ get_or starts b 0 → (a ≡ b) ⊎ (get_or starts a 0 ≡ 0)

-- at so many places from one on stands the item, and elsewhere what stood there
pub record IsFilled {A : Type 0} (from count : ℕ) (x : A) (old new : List A) : Type 0 where
  pub as_long : length new ≡ length old
  pub here : (i : ℕ) (d : A) → from ≤ i → i < from + count → get_or new i d ≡ x
  pub elsewhere : (i : ℕ) (d : A) → (i < from) ⊎ (from + count ≤ i) → get_or new i d ≡ get_or old i d
