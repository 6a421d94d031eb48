-- What the definitions see of reserved words, marks and tokens.
use Rattle.pat_lexer_spec.specs.Words as words
use Rattle.pat_lexer_spec.specs.Marks as marks
use Rattle.pat_lexer_spec.specs.Tokens as tokens
use Rattle.pat_syntax.specs.declared.word.Reserved.{Reserved}
use Rattle.pat_syntax.specs.declared.word.Reserved.TheVariants.{Interface, Def, Let, In, If, Else, Print, New, Spawn, Guard, Free, Fail, Receive, From, True, False, Unit as UnitWord, Bool, Int, String}
use Rattle.pat_syntax.specs.declared.mark.Mark.{Mark as MarkOf}
use Rattle.pat_syntax.specs.declared.mark.Mark.TheVariants.{RoundOpen, RoundClose, CurlyOpen, CurlyClose, SquareOpen, SquareClose, Comma, Semicolon, Colon, Dot, Plus, Minus, Star, Less, Bang, Question, Equals, DoubleEquals, Arrow}
use Rattle.pat_syntax.specs.declared.token.TokenKind.{TokenKind}
use Rattle.pat_syntax.specs.declared.token.TokenKind.TheVariants.{Name, Integer, Str, Word, Mark}
use Rattle.pat_syntax.specs.declared.token.Token.{Token}

-- a reserved word. Enumerations of code and of definitions are apart, so each case of a view names both
abbrev pub word_view : Reserved → words.Reserved
word_view Interface = words.Interface
word_view Def = words.Def
word_view Let = words.Let
word_view In = words.In
word_view If = words.If
word_view Else = words.Else
word_view Print = words.Print
word_view New = words.New
word_view Spawn = words.Spawn
word_view Guard = words.Guard
word_view Free = words.Free
word_view Fail = words.Fail
word_view Receive = words.Receive
word_view From = words.From
word_view True = words.TrueWord
word_view False = words.FalseWord
word_view UnitWord = words.UnitWord
word_view Bool = words.BoolWord
word_view Int = words.IntWord
word_view String = words.StringWord

-- a mark
abbrev pub mark_view : MarkOf → marks.Mark
mark_view RoundOpen = marks.RoundOpen
mark_view RoundClose = marks.RoundClose
mark_view CurlyOpen = marks.CurlyOpen
mark_view CurlyClose = marks.CurlyClose
mark_view SquareOpen = marks.SquareOpen
mark_view SquareClose = marks.SquareClose
mark_view Comma = marks.Comma
mark_view Semicolon = marks.Semicolon
mark_view Colon = marks.Colon
mark_view Dot = marks.Dot
mark_view Plus = marks.Plus
mark_view Minus = marks.Minus
mark_view Star = marks.Star
mark_view Less = marks.Less
mark_view Bang = marks.Bang
mark_view Question = marks.Question
mark_view Equals = marks.Equals
mark_view DoubleEquals = marks.DoubleEquals
mark_view Arrow = marks.Arrow

-- what a token is
abbrev pub kind_view : TokenKind → tokens.Token
kind_view (Name text) = tokens.Name text
kind_view (Integer n) = tokens.Integer n
kind_view (Str text) = tokens.Str text
kind_view (Word w) = tokens.Word (word_view w)
kind_view (Mark m) = tokens.Mark (mark_view m)

-- a token with its span
abbrev pub token_view : Token → tokens.Spanned
token_view t = record { token = kind_view t.kind; from = t.span.from; to = t.span.to }
