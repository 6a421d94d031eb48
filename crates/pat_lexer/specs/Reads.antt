-- What reading does to what a reader has.
use Rattle.std.specs.Prelude.{◌≡◌, ◌<◌, ◌≤◌, ◌+◌, ℕ, List, [], ◌∷◌, ◌++◌, length, drop, map, Result, Ok, Err}
use Rattle.pat_syntax.specs.declared.mark.Mark.{Mark}
use Rattle.pat_syntax.specs.declared.mark.Mark.TheVariants.{DoubleEquals, Arrow}
use Rattle.pat_syntax.specs.Views.{token_view}
use Rattle.pat_lexer_spec.specs.Divisions.{Reaches}
use Rattle.pat_lexer.specs.declared.error.LexError.{LexError}
use Rattle.pat_lexer.specs.declared.error.LexError.TheVariants.{BadToken}
use Rattle.pat_lexer.specs.declared.unfinished.Unfinished.{Unfinished}
use Rattle.pat_lexer.specs.declared.unfinished.Unfinished.TheVariants.{Nothing, Name, Str, Equals, Minus, Slash, Comment}
use Rattle.pat_lexer.specs.declared.fronts.character.Front.{Front}
use Rattle.pat_lexer.specs.declared.reader.Reader.{Reader}
use Rattle.pat_lexer.specs.Explains.{Explains}
use Rattle.pat_lexer.specs.Ends.{EndsAt}
use Rattle.pat_lexer.specs.Progress.{Progress, HasKind, Stands}
use Rattle.pat_lexer.specs.fronts.Fronts.{IsCut, FrontIs}

-- what the reader has
abbrev pub progress : Reader → Progress
progress r = record {
  whole = map token_view r.whole.items;
  unfinished = r.unfinished;
  start = r.start;
  position = r.position;
  held = r.held.items;
  character = r.character.items;
  character_start = r.character_start;
  number = r.number;
  text = r.text.items;
}

-- where a character that doesn't fit is refused: a name is whole before it
abbrev pub refusal_in : Unfinished → ℕ → ℕ → LexError
refusal_in Name start character_start = BadToken character_start
refusal_in _ start character_start = BadToken start

-- a reader that has read nothing stands at the start of each text
abbrev pub StandsAtStart : Reader → Type 0
StandsAtStart r = (text : List ℕ) → Stands (progress r) text text

-- a reader that stood before these bytes of a text, whatever follows, stands behind the first n of them
abbrev pub Reads : Reader → Reader → List ℕ → ℕ → Type 0
Reads old new bytes n = (text more : List ℕ) → Stands (progress old) text (bytes ++ more) → Stands (progress new) text (drop n bytes ++ more)

-- where a reader stands before these bytes, the text is refused so, whatever follows
abbrev pub Refuses : Reader → List ℕ → LexError → Type 0
Refuses old bytes e = (text more : List ℕ) → Stands (progress old) text (bytes ++ more) → Explains text e

-- a reader has read some bytes at the front of these, or where it stands the text is refused
abbrev pub Advances : Reader → Reader → List ℕ → Result ℕ LexError → Type 0
Advances old new bytes (Ok n) = (0 < n) × (n ≤ length bytes) × (new.position ≡ old.position + n) × Reads old new bytes n
Advances old new bytes (Err e) = Refuses old bytes e

-- a reader that stood where its unfinished piece ends has ended it
abbrev pub Closes : Reader → Reader → Type 0
Closes old new = (text rest : List ℕ) → EndsAt old.unfinished rest → Stands (progress old) text rest → Stands (progress new) text rest

-- where a reader stands at the end of its unfinished piece, the text is refused so
abbrev pub ClosesNot : Reader → LexError → Type 0
ClosesNot old e = (text rest : List ℕ) → EndsAt old.unfinished rest → Stands (progress old) text rest → Explains text e

-- a character may stand in the piece
abbrev pub TakesCharacters : Unfinished → Type 0
TakesCharacters Nothing = Unit {0}
TakesCharacters Name = Unit {0}
TakesCharacters Str = Unit {0}
TakesCharacters Comment = Unit {0}
TakesCharacters _ = ⊥

-- a character that isn't ASCII is unfinished, or may begin with the byte
abbrev pub MayGoOn : Reader → ℕ → Type 0
MayGoOn r b = r.character.items ≡ [] → (128 ≤ b) × TakesCharacters r.unfinished

-- as a reader stands, but for a character that has one more byte and wasn't looked at
pub record Judges (p : Progress) (text rest : List ℕ) : Type 0 where
  pub opened : List ℕ
  pub reaches : Reaches 0 text p.whole p.start (opened ++ (p.character ++ rest))
  pub position : p.position ≡ p.start + length opened + length p.character
  pub kind : HasKind p.unfinished p opened
  pub cut : IsCut p.character
  pub begins : p.character_start ≡ p.start + length opened
  pub takes : TakesCharacters p.unfinished

-- what a character does that was looked at
abbrev pub Takes : Reader → Reader → Front → Type 0
Takes old new front = FrontIs front old.character.items → (text more : List ℕ) → Judges (progress old) text more → Stands (progress new) text more

abbrev pub TakesNot : Reader → Front → LexError → Type 0
TakesNot old front e = FrontIs front old.character.items → (text more : List ℕ) → Judges (progress old) text more → Explains text e

-- a reader that stood before the byte judges the character that it goes on
abbrev pub Extends : Reader → Reader → ℕ → Type 0
Extends old new b = (text more : List ℕ) → Stands (progress old) text (b ∷ more) → Judges (progress new) text more

-- the piece begins with the byte
abbrev pub OpensWith : Unfinished → ℕ → Type 0
OpensWith Str b = b ≡ 34
OpensWith Equals b = b ≡ 61
OpensWith Minus b = b ≡ 45
OpensWith Slash b = b ≡ 47
OpensWith _ b = ⊥

-- one more byte makes the piece this mark
abbrev pub Completes : Unfinished → Mark → Type 0
Completes Equals DoubleEquals = Unit {0}
Completes Minus Arrow = Unit {0}
Completes _ _ = ⊥

-- the refusal of a character that doesn't fit what is unfinished
abbrev pub refusal_of : Reader → LexError
refusal_of r = refusal_in r.unfinished r.start r.character_start
