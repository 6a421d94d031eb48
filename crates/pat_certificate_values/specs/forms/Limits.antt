-- Patterns that are built unless they are too large.
use Rattle.std.specs.Prelude.{◌≡◌, ℕ, ◌≤◌, ◌<◌, List, ◌∷◌, Option, Some, None}
use Rattle.pat_words_spec.specs.Patterns.{Pat}
use Rattle.pat_words_spec.specs.Sizes.{size_of}
use Rattle.pat_patterns.specs.Views.{pattern_view}
use Rattle.pat_certificate_values.specs.declared.forms.building.Built.{Built}
use Rattle.pat_limits.specs.Limits.{most_nodes}

-- the number is that of the pattern's nodes, and small
abbrev pub IsCounted : Built → Type 0
IsCounted b = (b.size ≡ size_of (pattern_view b.pattern)) × (size_of (pattern_view b.pattern) ≤ most_nodes)

abbrev pub IsLimited : Option Built → Type 0
IsLimited None = Unit {0}
IsLimited (Some b) = IsCounted b

-- the pattern is built, or it is too large
abbrev pub Limits : Pat → Option Built → Type 0
Limits e None = most_nodes < size_of e
Limits e (Some b) = (pattern_view b.pattern ≡ e) × IsCounted b

-- the pattern is put on the stack, or nothing in its place where it is too large
pub record Puts (e : Pat) (old new : List (Option Built)) : Type 0 where
  pub own : Option Built
  pub is : new ≡ own ∷ old
  pub limits : Limits e own
