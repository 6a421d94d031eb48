-- Patterns behind references.
use Rattle.std.specs.Prelude.{List, map}
use Rattle.std.specs.Borrow.{Bor}
use Rattle.pat_patterns.specs.Patterns.{Pat}
use Rattle.pat_patterns.specs.declared.pattern.Pattern.{Pattern}
use Rattle.pat_patterns.specs.Views.{pattern_view}

-- the patterns that the references point to
abbrev pub pointed : List (Bor Pattern) → List Pat
pointed ps = map (λ p. pattern_view p.now) ps
