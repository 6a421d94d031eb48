-- What characters are for: names, digits, blanks, strings and comments.
use Rattle.std.specs.Prelude.{◌≡◌, ℕ, ◌+◌, ◌-◌, ◌*◌, ◌<◌, ◌==◌, ◌||◌, ◌&&◌, not, nat_le, Bool, true, false, List, [], ◌∷◌, length, None, encode_utf8_all}
use Rattle.std.specs.Str.{all_scalars, StartsWithNoChar}
use Rattle.std.specs.Str.Lossy.{utf8_error_len}
use Rattle.unicode_ident.specs.Ident.{is_xid_start, is_xid_continue}

-- a name may begin with the character
abbrev pub starts_name : ℕ → Bool
starts_name c = is_xid_start c || c == 95

-- a name may go on with the character
abbrev pub continues_name : ℕ → Bool
continues_name c = is_xid_continue c

-- a decimal digit
abbrev pub is_digit : ℕ → Bool
is_digit b = nat_le 48 b && nat_le b 57

-- space, tab, carriage return, newline
abbrev pub is_blank : ℕ → Bool
is_blank b = b == 32 || b == 9 || b == 13 || b == 10

-- the byte stands for itself between the quotes of a string: no quote, no backslash, none below the space
abbrev pub is_plain : ℕ → Bool
is_plain b = nat_le 32 b && not (b == 34) && not (b == 92)

-- any byte but a newline
abbrev pub is_in_line : ℕ → Bool
is_in_line b = not (b == 10)

-- each passes the test
abbrev pub Each : (ℕ → Bool) → List ℕ → Type 0
Each p [] = Unit {0}
Each p (x ∷ xs) = (p x ≡ true) × Each p xs

-- the first, if there is one, fails the test
abbrev pub FrontFails : (ℕ → Bool) → List ℕ → Type 0
FrontFails p [] = Unit {0}
FrontFails p (x ∷ xs) = p x ≡ false

-- the number that digits write in base ten, after a number
abbrev pub number_after : ℕ → List ℕ → ℕ
number_after n [] = n
number_after n (b ∷ bs) = number_after (10 * n + (b - 48)) bs

-- the bytes of one character and more that make a name, if they are no reserved word
pub record IsNameText (bytes : List ℕ) : Type 0 where
  pub first : ℕ
  pub others : List ℕ
  pub scalars : all_scalars (first ∷ others) ≡ true
  pub starts : starts_name first ≡ true
  pub continues : Each continues_name others
  pub spelled : bytes ≡ encode_utf8_all (first ∷ others)

-- what stands between the quotes of a string, and the bytes that it stands for
pub data Quotes : List ℕ → List ℕ → Type 0 where
  nothing : Quotes [] []
  plain : {b : ℕ} {raw text : List ℕ} → is_plain b ≡ true → Quotes raw text → Quotes (b ∷ raw) (b ∷ text)
  quote : {raw text : List ℕ} → Quotes raw text → Quotes (92 ∷ 34 ∷ raw) (34 ∷ text)
  backslash : {raw text : List ℕ} → Quotes raw text → Quotes (92 ∷ 92 ∷ raw) (92 ∷ text)

-- bytes that end within their first character: none is whole, and none of the bytes is at fault
pub record IsUnfinished (bytes : List ℕ) : Type 0 where
  pub some : 0 < length bytes
  pub none_whole : StartsWithNoChar bytes
  pub sound : utf8_error_len bytes ≡ None
