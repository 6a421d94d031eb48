-- What entries say of a search.
use Rattle.std.specs.Prelude.{◌≡◌, ℕ, ◌+◌, ◌<◌, ◌≤◌, List, Option, Some, None}
use Rattle.pat_words_spec.specs.Cuts.{cut_at}
use Rattle.pat_inclusion_spec.specs.bounds.Trees.{tree_size}
use Rattle.pat_inclusion_spec.specs.bounds.Symbols.{symbol_at, ShowsAt}
use Rattle.pat_inclusion_spec.specs.bounds.Tables.{Setting, IsKnown}
use Rattle.pat_inclusion_spec.specs.bounds.Numbers.{points_in, point_of}
use Rattle.pat_inclusion_spec.specs.bounds.Searches.{Search, InsideAnswer, FoundAnswer, LargeAnswer}
use Rattle.pat_grid.specs.declared.tables.board.Board.{Board}
use Rattle.pat_grid.specs.tables.Views.{setting_of}
use Rattle.pat_grid.specs.tables.Moves.{entry_at}

-- at the point with number c the symbol s has a tree of this size at most, and the symbol r has none
abbrev pub IsMissing : Setting → List ℕ → ℕ → ℕ → ℕ → ℕ → Type 0
IsMissing g entries s r most c =
    (c < points_in g.bound g.tags)
    × (entry_at g entries s c ≤ most)
    × (IsKnown g.limit (entry_at g entries r c) → ⊥)

-- no other point at which it is missing has a smaller tree, and none before it as small a one
pub record IsFirstLeast (g : Setting) (entries : List ℕ) (s r most c : ℕ) : Type 0 where
  pub missing : IsMissing g entries s r most c
  pub least : (d : ℕ) → IsMissing g entries s r most d → entry_at g entries s c ≤ entry_at g entries s d
  pub first : (d : ℕ) → d < c → IsMissing g entries s r most d → entry_at g entries s c < entry_at g entries s d

-- it is the best of the points before m, and its tree has this size; where none is missing, the size is one above the greatest
abbrev pub IsFound : Setting → List ℕ → ℕ → ℕ → ℕ → Option ℕ → ℕ → Type 0
IsFound g entries s r most None size = size ≡ most + 1
IsFound g entries s r most (Some c) size =
    IsMissing g entries s r most c
    × (entry_at g entries s c ≡ size)
    × ((d : ℕ) → d < c → IsMissing g entries s r most d → size < entry_at g entries s d)

pub record IsBest (g : Setting) (entries : List ℕ) (s r most m : ℕ) (found : Option ℕ) (size : ℕ) : Type 0 where
  pub within : size ≤ most + 1
  pub best : (d : ℕ) → d < m → IsMissing g entries s r most d → size ≤ entry_at g entries s d
  pub taken : IsFound g entries s r most found size

-- what is missing with no more than the limit is a refutation, by the first that is least; what is missing alone with more, none within the limit
abbrev pub IsRead : Setting → List ℕ → ℕ → ℕ → Search → Type 0
IsRead g entries s r InsideAnswer = (c : ℕ) → IsMissing g entries s r (g.limit + 1) c → ⊥
IsRead g entries s r (FoundAnswer w b) =
    (c : ℕ)
    × IsMissing g entries s r g.limit c
    × ShowsAt g.flat g.given b (symbol_at g.flat s) w
    × (point_of g.bound g.tags c ≡ cut_at g.bound w)
    × (tree_size b ≡ entry_at g entries s c)
    × IsFirstLeast g entries s r g.limit c
IsRead g entries s r LargeAnswer =
    ((c : ℕ) × IsMissing g entries s r (g.limit + 1) c)
    × ((c : ℕ) → IsMissing g entries s r g.limit c → ⊥)

-- so of the symbols with numbers s and r in a table
pub record IsReading (b : Board) (entries : List ℕ) (s r : ℕ) (answer : Search) : Type 0 where
  pub read : IsRead (setting_of b) entries s r answer
