-- Bytes by what they are for, and runs of them.
use Rattle.std.specs.Prelude.{ℕ, ◌≤◌, ◌==◌, ◌||◌, ◌&&◌, nat_lt, not, Bool, List, length, take, drop}
use Rattle.std.specs.Char.{is_ascii_alphabetic, is_ascii_alphanumeric}
use Rattle.pat_lexer_spec.specs.Characters.{is_blank, is_digit, is_plain, is_in_line, Each, FrontFails}

-- an ASCII character that a name may go on with
abbrev pub is_name_byte : ℕ → Bool
is_name_byte b = is_ascii_alphanumeric b || b == 95

-- an ASCII character that a name may begin with
abbrev pub is_name_start : ℕ → Bool
is_name_start b = is_ascii_alphabetic b || b == 95

-- an ASCII character that stands for itself in a string
abbrev pub is_plain_ascii : ℕ → Bool
is_plain_ascii b = nat_lt b 128 && is_plain b

-- an ASCII character that doesn't end a comment
abbrev pub is_comment_byte : ℕ → Bool
is_comment_byte b = nat_lt b 128 && is_in_line b

-- no byte of a name, a blank, an integer, a string or a comment begins so, nor does a mark that may be longer
abbrev pub is_other : ℕ → Bool
is_other b = nat_lt b 128 && not (is_name_start b) && not (is_blank b) && not (is_digit b) && not (b == 34) && not (b == 47) && not (b == 61) && not (b == 45)

-- the first n bytes pass the test, and the next, if there is one, fails it
pub record IsRunOf (p : ℕ → Bool) (text : List ℕ) (n : ℕ) : Type 0 where
  pub within : n ≤ length text
  pub each : Each p (take n text)
  pub stops : FrontFails p (drop n text)
