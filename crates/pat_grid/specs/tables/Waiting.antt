-- Which symbols wait to be looked at: those at which a step may give less than the table has.
use Rattle.std.specs.Prelude.{◌≡◌, ℕ, ◌<◌, ◌≤◌, ◌⊎◌, Bool, true, false, List, [], ◌∷◌, length, get_or, set}
use Rattle.pat_inclusion_spec.specs.bounds.Symbols.{Symbol, SumSymbol, ProdSymbol, StarSymbol, LowerSymbol, Flat, symbol_at, root_at}
use Rattle.pat_inclusion_spec.specs.bounds.Tables.{Setting, IsSound}
use Rattle.pat_inclusion_spec.specs.bounds.Numbers.{table_of, HasAllEntries}
use Rattle.pat_grid.specs.tables.Moves.{total, Among, HasLists, ClosedAt}
use Rattle.pat_grid.specs.declared.tables.sizes.Sizes.{Sizes}

-- the symbol is made of the one with number a; a star is also made of itself
abbrev pub IsPartOf : Flat → ℕ → Symbol → ℕ → Type 0
IsPartOf f s (SumSymbol l r) a = (l ≡ a) ⊎ (r ≡ a)
IsPartOf f s (ProdSymbol l r) a = (l ≡ a) ⊎ (r ≡ a)
IsPartOf f s (StarSymbol p) a = (p ≡ a) ⊎ (s ≡ a)
IsPartOf f s (LowerSymbol k) a = root_at f k ≡ a
IsPartOf f s _ a = ⊥

-- so the symbol with number s is
abbrev pub IsPart : Setting → ℕ → ℕ → Type 0
IsPart g s a = IsPartOf g.flat s (symbol_at g.flat s) a

-- the symbol isn't made of itself
abbrev pub IsNoPart : Setting → ℕ → Type 0
IsNoPart g s = IsPart g s s → ⊥

-- of each symbol those of the first m that are made of it are listed
pub record HasUsersBefore (g : Setting) (m : ℕ) (users : List (List ℕ)) : Type 0 where
  pub as_many : length users ≡ length g.flat.symbols
  pub all : (s a : ℕ) → s < m → IsPart g s a → a < length g.flat.symbols → Among s (get_or users a [])

-- of each symbol all that are made of it are listed
abbrev pub HasUsers : Setting → List (List ℕ) → Type 0
HasUsers g users = HasUsersBefore g (length g.flat.symbols) users

-- the number s is noted for symbols that are all its parts, if they are there
pub record Notes (g : Setting) (s : ℕ) (old new : List (List ℕ)) : Type 0 where
  pub as_many : length new ≡ length old
  pub kept : (a t : ℕ) → Among t (get_or old a []) → Among t (get_or new a [])
  pub all : (a : ℕ) → IsPart g s a → a < length old → Among s (get_or new a [])

-- all entries are there, what they say is so, and each symbol at which a step gives less waits
pub record Stands (g : Setting) (z : Sizes) (waits : List Bool) : Type 0 where
  pub all : HasAllEntries g z.entries
  pub sound : IsSound g (table_of g z.entries)
  pub lists : HasLists g z
  pub as_many : length waits ≡ length g.flat.symbols
  pub closed : (s : ℕ) → s < length g.flat.symbols → get_or waits s false ≡ false → ClosedAt g s z.entries

-- those in the list wait
abbrev pub with_waits : List ℕ → List Bool → List Bool
with_waits [] waits = waits
with_waits (n ∷ numbers) waits = with_waits numbers (set waits n true)

-- those in the list wait, and whoever waited before
pub record Waits (numbers : List ℕ) (old new : List Bool) : Type 0 where
  pub as_many : length new ≡ length old
  pub listed : (t : ℕ) → Among t numbers → t < length old → get_or new t false ≡ true
  pub kept : (t : ℕ) → get_or new t false ≡ false → get_or old t false ≡ false

-- the symbol with number s was looked at
pub record Looked (g : Setting) (s : ℕ) (old : List ℕ) (waited : List Bool) (was : Bool) (new : Sizes) (waits : List Bool) (is : Bool) : Type 0 where
  pub stands : Stands g new waits
  pub at_most : total new.entries ≤ total old
  pub falls : is ≡ true → (was ≡ true) ⊎ (total new.entries < total old)
  pub rests : is ≡ false → (was ≡ false) × (waits ≡ set waited s false)

-- those of the first m symbols that waited were looked at
pub record Passed (g : Setting) (m : ℕ) (old : List ℕ) (new : Sizes) (waits : List Bool) (changed : Bool) : Type 0 where
  pub stands : Stands g new waits
  pub at_most : total new.entries ≤ total old
  pub falls : changed ≡ true → total new.entries < total old
  pub rests : changed ≡ false → (s : ℕ) → s < m → get_or waits s false ≡ false

-- all entries are there, and what they say is so
pub record Begins (g : Setting) (z : Sizes) : Type 0 where
  pub all : HasAllEntries g z.entries
  pub sound : IsSound g (table_of g z.entries)
  pub lists : HasLists g z
