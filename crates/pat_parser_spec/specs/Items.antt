-- Tokens as the grammar reads them, and the limits on what may be open.
use Rattle.std.specs.Prelude.{◌≡◌, ℕ, ℤ, pos, ◌+◌, Bool, true, false, ◌||◌, List, Option, Some, None, nat_lt, if◌then◌else◌}
use Rattle.std.specs.Ordering.{int_eq}
use Rattle.pat_lexer_spec.specs.Words as word
use Rattle.pat_lexer_spec.specs.Marks as mark
use Rattle.pat_lexer_spec.specs.Tokens.{Token, Spanned, Name, Integer, Str, Word, Mark}
use Rattle.pat_semantics_spec.specs.Values.{Base, BaseUnit, BaseBool, BaseInt, BaseText, Op, Add, Sub, Equal, Less}
use Rattle.pat_semantics_spec.specs.Programs.{Polarity, Sending, Receiving}
use Rattle.pat_parser_spec.specs.Trees as tree

-- where a token stands, and whether it is free of the limits
pub record At : Type 0 where
  pub from : ℕ
  pub to : ℕ
  pub free : Bool

-- a token where it stands
abbrev pub Item : Type 0
Item = Token × At

-- a token of a text: the limits bind it
abbrev pub bound_item : Spanned → Item
bound_item t = (t.token, record { from = t.from; to = t.to; free = false })

-- a token that is free of the limits
abbrev pub free_item : Spanned → Item
free_item t = (t.token, record { from = t.from; to = t.to; free = true })

-- the place of a token
abbrev pub place_of : At → tree.Span
place_of w = tree.span w.from w.to

-- a name token as a name of the tree
abbrev pub named : List ℕ → At → tree.Name
named x w = record { text = x; span = place_of w }

-- how many tokens and statements may be open at once
pub record Limits : Type 0 where
  pub tokens : ℕ
  pub statements : ℕ

-- the token may be one more that is open, with o brackets and k operators open
abbrev pub Room : Limits → At → ℕ → ℕ → Type 0
Room lim w o k = (w.free || nat_lt (o + k) lim.tokens) ≡ true

-- the token may open one more statement, with s open
abbrev pub RoomBelow : Limits → At → ℕ → Type 0
RoomBelow lim w s = (w.free || nat_lt s lim.statements) ≡ true

-- which expression a token is by itself
abbrev pub literal : Token → tree.Span → Option tree.Expr
literal (Name x) at = Some (tree.VarExpr x at)
literal (Integer n) at = Some (tree.IntExpr n at)
literal (Str bytes) at = Some (tree.StrExpr bytes at)
literal (Word word.TrueWord) at = Some (tree.BoolExpr true at)
literal (Word word.FalseWord) at = Some (tree.BoolExpr false at)
literal _ at = None

-- which pattern an integer is
abbrev pub constant : ℤ → tree.Span → Option tree.Pattern
constant n at = if int_eq n (pos 0) then Some (tree.ZeroPattern at) else if int_eq n (pos 1) then Some (tree.OnePattern at) else None

-- which operator adds
abbrev pub additive : Token → Option Op
additive (Mark mark.Plus) = Some Add
additive (Mark mark.Minus) = Some Sub
additive _ = None

-- which operator compares
abbrev pub comparison : Token → Option Op
comparison (Mark mark.DoubleEquals) = Some Equal
comparison (Mark mark.Less) = Some Less
comparison _ = None

-- which base type a word names
abbrev pub base_named : Token → Option Base
base_named (Word word.UnitWord) = Some BaseUnit
base_named (Word word.BoolWord) = Some BaseBool
base_named (Word word.IntWord) = Some BaseInt
base_named (Word word.StringWord) = Some BaseText
base_named _ = None

-- which polarity a mark says
abbrev pub polarity_of : Token → Option Polarity
polarity_of (Mark mark.Bang) = Some Sending
polarity_of (Mark mark.Question) = Some Receiving
polarity_of _ = None
