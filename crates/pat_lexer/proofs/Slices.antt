-- A step at the front of a piece, as a step over the piece.
use Rattle.std.proofs.Common.{◌≡◌, ◌+◌, ◌<◌, ◌≤◌, ◌-◌, ℕ, zero, suc, Bool, true, false, nat_lt, List, [], ◌∷◌, ◌++◌, length, take, drop, get_or, refl, ap, sym, subst, ◌∙◌, arith, append_assoc}
use Rattle.std.proofs.lemmas.List.{drop_more, take-append-drop, length-take-le}
use Rattle.std.proofs.lemmas.Bool.Decides.{nat_tests}
use Rattle.std.proofs.lemmas.Str.{IsUtf8-from_ascii}
use Rattle.std.specs.Str.{IsUtf8}
use Rattle.pat_lexer_spec.specs.Characters.{Each, FrontFails, IsNameText}
use Rattle.pat_lexer_laws.proofs.Runs.{both}
use Rattle.pat_lexer_laws.proofs.NameBeginnings.{NoMoreName, ascii_name}
use Rattle.pat_lexer.specs.fronts.Bytes.{is_name_byte, is_name_start, IsRunOf}
use Rattle.pat_lexer.proofs.Between.{no_more_ascii}
use Rattle.pat_lexer.specs.declared.error.LexError.{LexError}
use Rattle.pat_lexer.specs.declared.error.LexError.TheVariants.{NoMemory}
use Rattle.pat_lexer.specs.Progress.{Progress, Stands}
use Rattle.pat_lexer.specs.Explains.{Explains}

pub front_split : (bytes : List ℕ) → 0 < length bytes → bytes ≡ get_or bytes 0 0 ∷ drop 1 bytes
front_split bytes some = drop_more bytes 0 0 some

-- a step over the first byte
pub at_first : (p q : Progress) (bytes : List ℕ) → 0 < length bytes → ((text more : List ℕ) → Stands p text (get_or bytes 0 0 ∷ more) → Stands q text more) → (text more : List ℕ) → Stands p text (bytes ++ more) → Stands q text (drop 1 bytes ++ more)
at_first p q bytes some step text more s = step text (drop 1 bytes ++ more) (subst (λ l. Stands p text (l ++ more)) (front_split bytes some) s)

-- what the first byte shows
pub by_first : (p : Progress) (P : List ℕ → Type 0) (bytes : List ℕ) → 0 < length bytes → ((text more : List ℕ) → Stands p text (get_or bytes 0 0 ∷ more) → P text) → (text more : List ℕ) → Stands p text (bytes ++ more) → P text
by_first p P bytes some shown text more s = shown text (drop 1 bytes ++ more) (subst (λ l. Stands p text (l ++ more)) (front_split bytes some) s)

split_at : (bytes more : List ℕ) (n : ℕ) → bytes ++ more ≡ take n bytes ++ (drop n bytes ++ more)
split_at bytes more n = ap (λ l. l ++ more) (sym (take-append-drop n bytes)) ∙ append_assoc (take n bytes) (drop n bytes) more

-- a step over a run
pub at_run : (p q : Progress) (bytes : List ℕ) (n : ℕ) → ((text more : List ℕ) → Stands p text (take n bytes ++ (drop n bytes ++ more)) → Stands q text (drop n bytes ++ more)) → (text more : List ℕ) → Stands p text (bytes ++ more) → Stands q text (drop n bytes ++ more)
at_run p q bytes n step text more s = step text more (subst (Stands p text) (split_at bytes more n) s)

-- what a run shows
pub by_run : (p : Progress) (P : List ℕ → Type 0) (bytes : List ℕ) (n : ℕ) → ((text more : List ℕ) → Stands p text (take n bytes ++ (drop n bytes ++ more)) → P text) → (text more : List ℕ) → Stands p text (bytes ++ more) → P text
by_run p P bytes n shown text more s = shown text more (subst (Stands p text) (split_at bytes more n) s)

pub no_memory : (e : LexError) (text : List ℕ) → e ≡ NoMemory → Explains text e
no_memory e text same = subst (Explains text) (sym same) tt

pub take_one : (bytes : List ℕ) → 0 < length bytes → take 1 bytes ≡ get_or bytes 0 0 ∷ []
take_one [] some = absurd (omega arith)
take_one (b ∷ bytes) some = refl

-- the same, stood at
pub moved : (p q : Progress) (text rest : List ℕ) → q ≡ p → Stands p text rest → Stands q text rest
moved p q text rest same s = subst (λ x. Stands x text rest) (sym same) s

-- the length of a run
pub run_length : (bytes : List ℕ) (n : ℕ) → n ≤ length bytes → n ≡ length (take n bytes)
run_length bytes n within = sym (length-take-le n bytes within)

pub no_less : (n : ℕ) → n - 0 ≡ n
no_less n = omega arith

-- a run whose first byte passes isn't empty
pub run_some : (p : ℕ → Bool) (bytes : List ℕ) (n : ℕ) → 0 < length bytes → p (get_or bytes 0 0) ≡ true → IsRunOf p bytes n → 0 < n
run_some p bytes zero some first run = absurd (both (p (get_or bytes 0 0)) first (subst (FrontFails p) (front_split bytes some) run.stops))
run_some p bytes (suc n) some first run = omega arith

-- where an empty run stops, the first byte fails
pub run_none : (p : ℕ → Bool) (bytes : List ℕ) (n : ℕ) → 0 < length bytes → n ≡ 0 → IsRunOf p bytes n → p (get_or bytes 0 0) ≡ false
run_none p bytes n some none run = let stops : FrontFails p (drop 0 bytes) = subst (λ m. FrontFails p (drop m bytes)) none run.stops in subst (FrontFails p) (front_split bytes some) stops

low_at : (bs : List ℕ) → Each (λ b. nat_lt b 128) bs → (i : ℕ) → get_or bs i 0 < 128
low_at [] each i = omega arith
low_at (b ∷ bs) each zero = let h = each.0 in grind (arith, nat_tests)
low_at (b ∷ bs) each (suc i) = low_at bs each.1 i

-- ASCII is UTF-8
pub ascii_utf8 : (bs : List ℕ) → Each (λ b. nat_lt b 128) bs → IsUtf8 bs
ascii_utf8 bs each = IsUtf8-from_ascii bs (low_at bs each)

-- a run of ASCII characters that begins as a name does
pub run_name : (bytes : List ℕ) (n : ℕ) → 0 < length bytes → is_name_start (get_or bytes 0 0) ≡ true → IsRunOf is_name_byte bytes n → IsNameText (take n bytes)
run_name [] n some start run = absurd (omega arith)
run_name (b ∷ bytes) zero some start run = absurd (both (is_name_byte b) (grind (arith, nat_tests)) run.stops)
run_name (b ∷ bytes) (suc n) some start run = ascii_name b (take n bytes) start run.each.1

-- a name stops where an ASCII character stands that doesn't go on with it
pub stops_name : (bytes more : List ℕ) (n : ℕ) → n < length bytes → get_or bytes n 0 < 128 → IsRunOf is_name_byte bytes n → NoMoreName (drop n bytes ++ more)
stops_name bytes more n within low run =
    let split : drop n bytes ≡ get_or bytes n 0 ∷ drop (n + 1) bytes = drop_more bytes n 0 within in
    let stops : is_name_byte (get_or bytes n 0) ≡ false = subst (FrontFails is_name_byte) split run.stops in
    subst (λ l. NoMoreName (l ++ more)) (sym split) (no_more_ascii (get_or bytes n 0) (drop (n + 1) bytes ++ more) low stops)
