-- Where an unfinished piece ends.
use Rattle.std.proofs.Common.{◌≡◌, ◌<◌, ◌==◌, ◌&&◌, not, nat_lt, ℕ, Bool, true, false, List, [], ◌∷◌, ◌++◌, length, get_or, ◌+◌, ◌∙◌, Result, Ok, Err, refl, ap, sym, arith}
use Rattle.std.specs.Result.{IfOk, IfErr}
use Rattle.std.proofs.lemmas.Bool.Decides.{nat_tests}
use Rattle.pat_lexer_spec.specs.Characters.{is_digit, is_in_line, FrontFails}
use Rattle.pat_lexer_spec.specs.Divisions.{IsRefused, BadToken}
use Rattle.pat_lexer_laws.proofs.NameBeginnings.{NoMoreName}
use Rattle.pat_lexer_laws.proofs.Faults.{no_end_nil}
use Rattle.pat_lexer.specs.declared.unfinished.Unfinished.{Unfinished}
use Rattle.pat_lexer.specs.declared.unfinished.Unfinished.TheVariants.{Name, Integer, Str, Escape, Equals, Minus, Slash, Comment}
use Rattle.pat_lexer.specs.fronts.Bytes.{is_name_byte}
use Rattle.pat_lexer.specs.Ends.{ends, EndsAt}
use Rattle.pat_lexer.specs.declared.error.LexError.{LexError}
use Rattle.pat_lexer.specs.declared.reader.Reader.{Reader}
use Rattle.pat_lexer.specs.Progress.{Progress, Stands}
use Rattle.pat_lexer.specs.Reads.{Reads, Advances}
use Rattle.pat_lexer.proofs.Between.{no_more_ascii, no_more_nil}
use Rattle.pat_lexer.proofs.Inside.{string_refused, escape_refused, slash_refused}

-- what follows from a fact of a result
pub ok_then : {T E : Type 0} (r : Result T E) (P Q : T → Type 0) → IfOk r P → ((x : T) → P x → Q x) → IfOk r Q
ok_then (Ok x) P Q h f = f x h
ok_then (Err e) P Q h f = tt

pub err_then : {T E : Type 0} (r : Result T E) (P Q : E → Type 0) → IfErr r P → ((e : E) → P e → Q e) → IfErr r Q
err_then (Ok x) P Q h f = tt
err_then (Err e) P Q h f = f e h

-- what was settled before the bytes were read on
pub advance_then : (old mid new : Reader) (bytes : List ℕ) (r : Result ℕ LexError) → mid.position ≡ old.position → Reads old mid bytes 0 → Advances mid new bytes r → Advances old new bytes r
advance_then old mid new bytes (Ok n) at settled h = (h.0, h.1, h.2 ∙ ap (λ k. k + n) at, λ text more s. h.3 text more (settled text more s))
advance_then old mid new bytes (Err e) at settled h = λ text more s. h text more (settled text more s)

-- the first byte of a piece ends what is unfinished
pub ends_at : (u : Unfinished) (bytes more : List ℕ) → 0 < length bytes → ends u (get_or bytes 0 0) ≡ true → EndsAt u (bytes ++ more)
ends_at u [] more some e = absurd (omega arith)
ends_at u (b ∷ bytes) more some e = e

name_low : (b : ℕ) → ends Name b ≡ true → b < 128
name_low b h = grind (arith, nat_tests)

name_stops : (b : ℕ) → ends Name b ≡ true → is_name_byte b ≡ false
name_stops b h = from (nat_lt b 128) (is_name_byte b) h
  where
    from : (v w : Bool) → (v && not w) ≡ true → w ≡ false
    from true false e = refl
    from true true e = sym e
    from false w e = absurd (let no : ⊥ = cc in no)

pub ends_name : (rest : List ℕ) → EndsAt Name rest → NoMoreName rest
ends_name [] e = no_more_nil
ends_name (b ∷ rest) e = no_more_ascii b rest (name_low b e) (name_stops b e)

flipped : (v : Bool) → not v ≡ true → v ≡ false
flipped true e = sym e
flipped false e = refl

pub ends_integer : (rest : List ℕ) → EndsAt Integer rest → FrontFails is_digit rest
ends_integer [] e = tt
ends_integer (b ∷ rest) e = flipped (is_digit b) e

pub ends_equals : (rest : List ℕ) → EndsAt Equals rest → FrontFails (λ b. b == 61) rest
ends_equals [] e = tt
ends_equals (b ∷ rest) e = flipped (b == 61) e

pub ends_minus : (rest : List ℕ) → EndsAt Minus rest → FrontFails (λ b. b == 62) rest
ends_minus [] e = tt
ends_minus (b ∷ rest) e = flipped (b == 62) e

pub ends_comment : (rest : List ℕ) → EndsAt Comment rest → FrontFails is_in_line rest
ends_comment [] e = tt
ends_comment (b ∷ rest) e = ap not e

false_true : false ≡ true → ⊥
false_true e = let no : ⊥ = cc in no

pub string_ends : (p : Progress) (text rest : List ℕ) → p.unfinished ≡ Str → p.character ≡ [] → EndsAt Str rest → Stands p text rest → IsRefused text (BadToken p.start)
string_ends p text [] u none e s = string_refused p text [] u none no_end_nil s
string_ends p text (b ∷ rest) u none e s = absurd (false_true e)

pub escape_ends : (p : Progress) (text rest : List ℕ) → p.unfinished ≡ Escape → p.character ≡ [] → EndsAt Escape rest → Stands p text rest → IsRefused text (BadToken p.start)
escape_ends p text [] u none e s = escape_refused p text [] u none tt s
escape_ends p text (b ∷ rest) u none e s = absurd (false_true e)

pub slash_ends : (p : Progress) (text rest : List ℕ) → p.unfinished ≡ Slash → p.character ≡ [] → EndsAt Slash rest → Stands p text rest → IsRefused text (BadToken p.start)
slash_ends p text [] u none e s = slash_refused p text [] u none tt s
slash_ends p text (b ∷ rest) u none e s = absurd (false_true e)
