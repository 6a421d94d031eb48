-- The spellings of words and marks: each has one, and no two share one.
use Rattle.std.proofs.Common.{◌≡◌, if◌then◌else◌, Option, Some, None, ℕ, List, refl, ap, sym, ◌∙◌}
use Rattle.std.proofs.lemmas.Option.{same_Some}
use Rattle.std.specs.Str.{bytes_eq}
use Rattle.pat_lexer_spec.specs.Words.{Reserved, word_bytes, Interface, Def, Let, In, If, Else, Print, New, Spawn, Guard, Free, Fail, Receive, From, TrueWord, FalseWord, UnitWord, BoolWord, IntWord, StringWord}
use Rattle.pat_lexer_spec.specs.Marks.{Mark, mark_bytes, RoundOpen, RoundClose, CurlyOpen, CurlyClose, SquareOpen, SquareClose, Comma, Semicolon, Colon, Dot, Plus, Minus, Star, Less, Bang, Question, Equals, DoubleEquals, Arrow}

-- the word that bytes are, and the mark
abbrev word_at : List ℕ → Option Reserved
word_at own = if bytes_eq own (word_bytes Interface) then Some Interface else if bytes_eq own (word_bytes Def) then Some Def else if bytes_eq own (word_bytes Let) then Some Let else if bytes_eq own (word_bytes In) then Some In else if bytes_eq own (word_bytes If) then Some If else if bytes_eq own (word_bytes Else) then Some Else else if bytes_eq own (word_bytes Print) then Some Print else if bytes_eq own (word_bytes New) then Some New else if bytes_eq own (word_bytes Spawn) then Some Spawn else if bytes_eq own (word_bytes Guard) then Some Guard else if bytes_eq own (word_bytes Free) then Some Free else if bytes_eq own (word_bytes Fail) then Some Fail else if bytes_eq own (word_bytes Receive) then Some Receive else if bytes_eq own (word_bytes From) then Some From else if bytes_eq own (word_bytes TrueWord) then Some TrueWord else if bytes_eq own (word_bytes FalseWord) then Some FalseWord else if bytes_eq own (word_bytes UnitWord) then Some UnitWord else if bytes_eq own (word_bytes BoolWord) then Some BoolWord else if bytes_eq own (word_bytes IntWord) then Some IntWord else if bytes_eq own (word_bytes StringWord) then Some StringWord else None

word_at_there : (w : Reserved) → word_at (word_bytes w) ≡ Some w
word_at_there Interface = refl
word_at_there Def = refl
word_at_there Let = refl
word_at_there In = refl
word_at_there If = refl
word_at_there Else = refl
word_at_there Print = refl
word_at_there New = refl
word_at_there Spawn = refl
word_at_there Guard = refl
word_at_there Free = refl
word_at_there Fail = refl
word_at_there Receive = refl
word_at_there From = refl
word_at_there TrueWord = refl
word_at_there FalseWord = refl
word_at_there UnitWord = refl
word_at_there BoolWord = refl
word_at_there IntWord = refl
word_at_there StringWord = refl

pub one_word : (v w : Reserved) → word_bytes v ≡ word_bytes w → v ≡ w
one_word v w e = same_Some v w (sym (word_at_there v) ∙ ap word_at e ∙ word_at_there w)

-- words and marks are two enumerations, and what bytes are is computed case by case in each
abbrev mark_at : List ℕ → Option Mark
mark_at own = if bytes_eq own (mark_bytes RoundOpen) then Some RoundOpen else if bytes_eq own (mark_bytes RoundClose) then Some RoundClose else if bytes_eq own (mark_bytes CurlyOpen) then Some CurlyOpen else if bytes_eq own (mark_bytes CurlyClose) then Some CurlyClose else if bytes_eq own (mark_bytes SquareOpen) then Some SquareOpen else if bytes_eq own (mark_bytes SquareClose) then Some SquareClose else if bytes_eq own (mark_bytes Comma) then Some Comma else if bytes_eq own (mark_bytes Semicolon) then Some Semicolon else if bytes_eq own (mark_bytes Colon) then Some Colon else if bytes_eq own (mark_bytes Dot) then Some Dot else if bytes_eq own (mark_bytes Plus) then Some Plus else if bytes_eq own (mark_bytes Minus) then Some Minus else if bytes_eq own (mark_bytes Star) then Some Star else if bytes_eq own (mark_bytes Less) then Some Less else if bytes_eq own (mark_bytes Bang) then Some Bang else if bytes_eq own (mark_bytes Question) then Some Question else if bytes_eq own (mark_bytes Equals) then Some Equals else if bytes_eq own (mark_bytes DoubleEquals) then Some DoubleEquals else if bytes_eq own (mark_bytes Arrow) then Some Arrow else None

mark_at_there : (w : Mark) → mark_at (mark_bytes w) ≡ Some w
mark_at_there RoundOpen = refl
mark_at_there RoundClose = refl
mark_at_there CurlyOpen = refl
mark_at_there CurlyClose = refl
mark_at_there SquareOpen = refl
mark_at_there SquareClose = refl
mark_at_there Comma = refl
mark_at_there Semicolon = refl
mark_at_there Colon = refl
mark_at_there Dot = refl
mark_at_there Plus = refl
mark_at_there Minus = refl
mark_at_there Star = refl
mark_at_there Less = refl
mark_at_there Bang = refl
mark_at_there Question = refl
mark_at_there Equals = refl
mark_at_there DoubleEquals = refl
mark_at_there Arrow = refl

pub one_mark : (v w : Mark) → mark_bytes v ≡ mark_bytes w → v ≡ w
one_mark v w e = same_Some v w (sym (mark_at_there v) ∙ ap mark_at e ∙ mark_at_there w)
