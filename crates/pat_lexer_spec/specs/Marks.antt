-- The marks. They are an enumeration apart from the reserved words, since a token is the one or the other.
use Rattle.std.specs.Prelude.{ℕ, List, codes}

-- a mark
pub data Mark : Type 0 where
  RoundOpen : Mark
  RoundClose : Mark
  CurlyOpen : Mark
  CurlyClose : Mark
  SquareOpen : Mark
  SquareClose : Mark
  Comma : Mark
  Semicolon : Mark
  Colon : Mark
  Dot : Mark
  Plus : Mark
  Minus : Mark
  Star : Mark
  Less : Mark
  Bang : Mark
  Question : Mark
  Equals : Mark
  DoubleEquals : Mark
  Arrow : Mark

-- the bytes of a mark
abbrev pub mark_bytes : Mark → List ℕ
mark_bytes RoundOpen = codes "("
mark_bytes RoundClose = codes ")"
mark_bytes CurlyOpen = codes "{"
mark_bytes CurlyClose = codes "}"
mark_bytes SquareOpen = codes "["
mark_bytes SquareClose = codes "]"
mark_bytes Comma = codes ","
mark_bytes Semicolon = codes ";"
mark_bytes Colon = codes ":"
mark_bytes Dot = codes "."
mark_bytes Plus = codes "+"
mark_bytes Minus = codes "-"
mark_bytes Star = codes "*"
mark_bytes Less = codes "<"
mark_bytes Bang = codes "!"
mark_bytes Question = codes "?"
mark_bytes Equals = codes "="
mark_bytes DoubleEquals = codes "=="
mark_bytes Arrow = codes "->"
