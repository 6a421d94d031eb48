-- The names of an interface's tags, and a pattern as it is written with them.
use Rattle.std.specs.Prelude.{ℕ, List, [], map, slice_index_or}
use Rattle.pat_words_spec.specs.Patterns.{Pat, Zero, One, Tag, Sum, Prod, Star, Var}
use Rattle.pat_semantics_spec.specs.Programs.{Interface}
use Rattle.pat_parser_spec.specs.Trees as trees
use Rattle.pat_print_spec.specs.Bare.{nowhere}

-- the names of an interface's tags
abbrev pub tag_names : Interface → List (List ℕ)
tag_names i = map (λ t. t.name) i.tags

-- the pattern as it is written with these names, where it has no variable
abbrev pub written_with : List (List ℕ) → Pat → trees.Pattern
written_with names Zero = trees.ZeroPattern nowhere
written_with names One = trees.OnePattern nowhere
written_with names (Tag t) = trees.TagPattern (record { text = slice_index_or names t []; span = nowhere })
written_with names (Var k) = trees.ZeroPattern nowhere
written_with names (Sum p q) = trees.SumPattern (written_with names p) (written_with names q)
written_with names (Prod p q) = trees.ProdPattern (written_with names p) (written_with names q)
written_with names (Star p) = trees.StarPattern (written_with names p)
