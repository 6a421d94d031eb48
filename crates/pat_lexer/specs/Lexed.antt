-- What a lexer shows, and what it knows of the bytes that it was fed.
use Rattle.std.specs.Prelude.{◌≡◌, ◌≢◌, ◌⊎◌, ℕ, List, [], ◌++◌, length, Option, None, Some}
use Rattle.pat_lexer_spec.specs.Characters.{IsUnfinished}
use Rattle.pat_lexer_spec.specs.Divisions.{Reaches}
use Rattle.pat_lexer.specs.declared.error.LexError.{LexError}
use Rattle.pat_lexer.specs.declared.unfinished.Unfinished.TheVariants.{Comment}
use Rattle.pat_lexer.specs.Progress.{Progress, Stands}
use Rattle.pat_lexer.specs.Explains.{Explains}

-- what a lexer shows: what it has read, and the refusal that it has answered
pub record Lexed : Type 0 where
  pub progress : Progress
  pub refusal : Option LexError

-- The lexer was fed these bytes, in whatever pieces. Whatever bytes follow, it stands behind them in the text that
-- they begin; or it has refused, and then the text is refused so, whatever bytes follow.
pub record HasRead (bytes : List ℕ) (l : Lexed) : Type 0 where
  pub counted : l.refusal ≡ None → l.progress.position ≡ length bytes
  pub stands : l.refusal ≡ None → (more : List ℕ) → Stands l.progress (bytes ++ more) more
  pub refused : (e : LexError) → l.refusal ≡ Some e → (more : List ℕ) → Explains (bytes ++ more) e

-- What is held of the bytes read ends them. Outside a comment the whole tokens lead to it, whatever bytes follow;
-- within one it is an unfinished character, or nothing.
pub record Holds (bytes : List ℕ) (p : Progress) : Type 0 where
  pub front : List ℕ
  pub split : bytes ≡ front ++ p.held
  pub reaches : p.unfinished ≢ Comment → (more : List ℕ) → Reaches 0 (bytes ++ more) p.whole p.start (p.held ++ more)
  pub comment : p.unfinished ≡ Comment → (p.held ≡ []) ⊎ IsUnfinished p.held
