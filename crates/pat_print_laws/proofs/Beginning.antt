-- A token's own bytes begin it, where what follows lets it end.
use Rattle.std.proofs.Common.{◌≡◌, ◌≢◌, ◌<◌, ◌≤◌, ◌^◌, ℕ, true, false, List, [], ◌∷◌, ◌++◌, length, refl, ap, sym, subst, ◌∙◌, arith}
use Rattle.std.specs.Prelude.{◌==◌, ◌||◌, pos}
use Rattle.std.proofs.lemmas.Bool.Decides.{nat_tests}
use Rattle.std.proofs.lemmas.Str.{char_from_byte}
use Rattle.std.proofs.lemmas.Str.Parse.{IsDigitsTest, FoldsDigits, IsNumeralModel, numerals_by_fold}
use Rattle.std.proofs.lemmas.Fmt.{decimal_nonempty, digits_decimal, digits_value-decimal}
use Rattle.std.specs.Fmt.{decimal, signed_decimal}
use Rattle.std.specs.Str.{IsUtf8}
use Rattle.unicode_ident.proofs.IdentLemmas.{is_xid_continue-ascii}
use Rattle.pat_lexer_spec.specs.Words.{word_bytes}
use Rattle.pat_lexer_spec.specs.Marks.{Mark as MarkKind, mark_bytes, RoundOpen, RoundClose, CurlyOpen, CurlyClose, SquareOpen, SquareClose, Comma, Semicolon, Colon, Dot, Plus, Minus, Star, Less, Bang, Question, Equals, DoubleEquals, Arrow}
use Rattle.pat_lexer_spec.specs.Tokens.{Token, Name, Integer, Str, Word, Mark}
use Rattle.pat_lexer_spec.specs.Characters.{is_digit, is_plain, continues_name, Each, FrontFails, number_after, Quotes, nothing, plain, quote, backslash}
use Rattle.pat_lexer_spec.specs.Lexemes.{Whole, Begins, NoLonger, greatest}
use Rattle.pat_lexer_laws.proofs.Runs.{both}
use Rattle.pat_lexer_laws.proofs.Texts.{encode_some}
use Rattle.pat_lexer_laws.proofs.Beginnings.{integer_begins, string_begins}
use Rattle.pat_lexer_laws.proofs.NameBeginnings.{is_name_byte, NoMoreName, name_begins, word_begins}
use Rattle.pat_lexer_laws.proofs.MarkBeginnings.{mark_begins}
use Rattle.pat_lexer_spec.specs.Spelled.{IsSpelled}
use Rattle.pat_print_spec.specs.Canonical.{Tok, Blank, Line, Pieces}
use Rattle.pat_print_spec.specs.Text.{quoted, token_bytes, text_of}
use Rattle.pat_print_laws.proofs.Apart.{quiet, spaced, ends}

-- ---- names and words

no_more : (b : ℕ) (s : List ℕ) → b < 128 → is_name_byte b ≡ false → NoMoreName (b ∷ s)
no_more b s low none c after scalar e =
    let same : c ≡ b = char_from_byte (b ∷ s) after c e low (omega arith) in
    subst (λ x. continues_name x ≡ false) (sym same) (is_xid_continue-ascii b low ∙ none)

mark_no_more : (m : MarkKind) (r : List ℕ) → NoMoreName (mark_bytes m ++ r)
mark_no_more RoundOpen r = no_more 40 _ (omega arith) refl
mark_no_more RoundClose r = no_more 41 _ (omega arith) refl
mark_no_more CurlyOpen r = no_more 123 _ (omega arith) refl
mark_no_more CurlyClose r = no_more 125 _ (omega arith) refl
mark_no_more SquareOpen r = no_more 91 _ (omega arith) refl
mark_no_more SquareClose r = no_more 93 _ (omega arith) refl
mark_no_more Comma r = no_more 44 _ (omega arith) refl
mark_no_more Semicolon r = no_more 59 _ (omega arith) refl
mark_no_more Colon r = no_more 58 _ (omega arith) refl
mark_no_more Dot r = no_more 46 _ (omega arith) refl
mark_no_more Plus r = no_more 43 _ (omega arith) refl
mark_no_more Minus r = no_more 45 _ (omega arith) refl
mark_no_more Star r = no_more 42 _ (omega arith) refl
mark_no_more Less r = no_more 60 _ (omega arith) refl
mark_no_more Bang r = no_more 33 _ (omega arith) refl
mark_no_more Question r = no_more 63 _ (omega arith) refl
mark_no_more Equals r = no_more 61 _ (omega arith) refl
mark_no_more DoubleEquals r = no_more 61 _ (omega arith) refl
mark_no_more Arrow r = no_more 45 _ (omega arith) refl

quiet_no_more : (r : Pieces) → quiet r ≡ true → NoMoreName (text_of r)
quiet_no_more [] q = λ c after scalar e. absurd (encode_some c after (sym e))
quiet_no_more (Blank ∷ r) q = no_more 32 (text_of r) (omega arith) refl
quiet_no_more (Line ∷ r) q = no_more 10 (text_of r) (omega arith) refl
quiet_no_more (Tok (Mark m) ∷ r) q = mark_no_more m (text_of r)
quiet_no_more (Tok (Name x) ∷ r) q = absurd (both false q refl)
quiet_no_more (Tok (Integer n) ∷ r) q = absurd (both false q refl)
quiet_no_more (Tok (Str s) ∷ r) q = absurd (both false q refl)
quiet_no_more (Tok (Word w) ∷ r) q = absurd (both false q refl)

-- ---- integers

mark_no_digit : (m : MarkKind) (r : List ℕ) → FrontFails is_digit (mark_bytes m ++ r)
mark_no_digit RoundOpen r = refl
mark_no_digit RoundClose r = refl
mark_no_digit CurlyOpen r = refl
mark_no_digit CurlyClose r = refl
mark_no_digit SquareOpen r = refl
mark_no_digit SquareClose r = refl
mark_no_digit Comma r = refl
mark_no_digit Semicolon r = refl
mark_no_digit Colon r = refl
mark_no_digit Dot r = refl
mark_no_digit Plus r = refl
mark_no_digit Minus r = refl
mark_no_digit Star r = refl
mark_no_digit Less r = refl
mark_no_digit Bang r = refl
mark_no_digit Question r = refl
mark_no_digit Equals r = refl
mark_no_digit DoubleEquals r = refl
mark_no_digit Arrow r = refl

quiet_no_digit : (r : Pieces) → quiet r ≡ true → FrontFails is_digit (text_of r)
quiet_no_digit [] q = tt
quiet_no_digit (Blank ∷ r) q = refl
quiet_no_digit (Line ∷ r) q = refl
quiet_no_digit (Tok (Mark m) ∷ r) q = mark_no_digit m (text_of r)
quiet_no_digit (Tok (Name x) ∷ r) q = absurd (both false q refl)
quiet_no_digit (Tok (Integer n) ∷ r) q = absurd (both false q refl)
quiet_no_digit (Tok (Str s) ∷ r) q = absurd (both false q refl)
quiet_no_digit (Tok (Word w) ∷ r) q = absurd (both false q refl)

tells : IsDigitsTest (Each is_digit)
tells = record {
  empty = tt;
  parts = λ c cs p. (grind (arith, nat_tests, p.0), p.1);
  more = λ c cs k p. (grind (arith, nat_tests, k), p);
}

folds : FoldsDigits number_after
folds = record { empty = λ n. refl; more = λ n c cs k. ap (λ m. number_after m cs) (omega arith) }

model : IsNumeralModel (Each is_digit) (number_after 0)
model = numerals_by_fold (Each is_digit) tells number_after folds

some_digits : (k : ℕ) → k < 2 ^ 64 → decimal k ≢ []
some_digits k h none = omega (arith, decimal_nonempty k h, ap length none)

number_begins : (k : ℕ) (rest : List ℕ) → k ≤ greatest → FrontFails is_digit rest → Begins (Whole (Integer (pos k))) (decimal k) rest
number_begins k rest narrow stops =
    let small : k < 2 ^ 64 = omega arith in
    let value : number_after 0 (decimal k) ≡ k = digits_value-decimal model k small in
    subst (λ n. Begins (Whole (Integer (pos n))) (decimal k) rest) value
    (integer_begins (decimal k) rest (some_digits k small, digits_decimal model k small, stops) (subst (λ n. n ≤ greatest) (sym value) narrow))

-- ---- strings

raw_is : {raw text : List ℕ} → Quotes raw text → raw ≡ quoted text
raw_is nothing = refl
raw_is (plain {b = b} {text = text} p q) = plain_quoted b text (raw_is q) p
  where
    plain_quoted : (b : ℕ) (text : List ℕ) {raw : List ℕ} → raw ≡ quoted text → is_plain b ≡ true → b ∷ raw ≡ quoted (b ∷ text)
    plain_quoted b text e p = let other : (b == 34 || b == 92) ≡ false = grind (arith, nat_tests) in rw other (ap (λ l. b ∷ l) e)
raw_is (quote q) = ap (λ l. 92 ∷ 34 ∷ l) (raw_is q)
raw_is (backslash q) = ap (λ l. 92 ∷ 92 ∷ l) (raw_is q)

-- ---- marks

spaced_other : (b : ℕ) (r : Pieces) → (32 == b) ≡ false → (10 == b) ≡ false → spaced r ≡ true → FrontFails (λ x. x == b) (text_of r)
spaced_other b [] p n s = tt
spaced_other b (Blank ∷ r) p n s = p
spaced_other b (Line ∷ r) p n s = n
spaced_other b (Tok c ∷ r) p n s = absurd (both false s refl)

no_longer : (m : MarkKind) (r : Pieces) → ends (Mark m) r ≡ true → NoLonger m (text_of r)
no_longer Equals r h = spaced_other 61 r refl refl h
no_longer Minus r h = spaced_other 62 r refl refl h
no_longer RoundOpen r h = tt
no_longer RoundClose r h = tt
no_longer CurlyOpen r h = tt
no_longer CurlyClose r h = tt
no_longer SquareOpen r h = tt
no_longer SquareClose r h = tt
no_longer Comma r h = tt
no_longer Semicolon r h = tt
no_longer Colon r h = tt
no_longer Dot r h = tt
no_longer Plus r h = tt
no_longer Star r h = tt
no_longer Less r h = tt
no_longer Bang r h = tt
no_longer Question r h = tt
no_longer DoubleEquals r h = tt
no_longer Arrow r h = tt

-- ---- all tokens

pub token_begins : (c : Token) (r : Pieces) → IsSpelled c → ends c r ≡ true → Begins (Whole c) (token_bytes c) (text_of r)
token_begins (Name x) r (own, rest, s) h =
    subst (λ w. Begins (Whole (Name w)) w (text_of r)) (sym s.0) (name_begins own (text_of r) s.1 s.2 (quiet_no_more r h))
token_begins (Integer n) r (own, rest, s) h =
    subst (λ z. Begins (Whole (Integer z)) (signed_decimal z) (text_of r)) (sym s.2) (number_begins (number_after 0 own) (text_of r) s.1 (quiet_no_digit r h))
token_begins (Str t) r (own, rest, s) h =
    let e = raw_is s.3 in
    string_begins (quoted t) t (text_of r) (subst IsUtf8 e s.2) (subst (λ w. Quotes w t) e s.3)
token_begins (Word w) r s h = word_begins w (word_bytes w) (text_of r) refl (quiet_no_more r h)
token_begins (Mark m) r s h = mark_begins m (text_of r) (no_longer m r h)
