-- What character bytes begin with.
use Rattle.std.specs.Prelude.{◌≡◌, ◌≤◌, ℕ, List, [], ◌∷◌, ◌++◌, slice_index}
use Rattle.std.specs.Char.{encode_utf8, IsScalar}
use Rattle.std.specs.Str.{StartsWithNoChar}
use Rattle.pat_lexer_spec.specs.Characters.{IsUnfinished}
use Rattle.pat_lexer.specs.declared.fronts.character.Front.{Front}
use Rattle.pat_lexer.specs.declared.fronts.character.Front.TheVariants.{Whole, Unfinished, Bad}

-- bytes that begin with no ASCII character, and with no whole character before their last byte
pub record IsCut (bytes : List ℕ) : Type 0 where
  pub before : List ℕ
  pub last : ℕ
  pub split : bytes ≡ before ++ last ∷ []
  pub none : StartsWithNoChar before
  pub high : 128 ≤ slice_index bytes 0

-- the bytes are a character, end within one, or begin with none, whatever follows
abbrev pub FrontIs : Front → List ℕ → Type 0
FrontIs (Whole c) bytes = IsScalar c × (bytes ≡ encode_utf8 c)
FrontIs Unfinished bytes = IsUnfinished bytes
FrontIs Bad bytes = (more : List ℕ) → StartsWithNoChar (bytes ++ more)
