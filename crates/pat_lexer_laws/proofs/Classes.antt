-- What a lexeme is shows at its first byte.
use Rattle.std.proofs.Common.{◌≡◌, ◌≢◌, ◌<◌, ◌≤◌, ◌==◌, ◌||◌, nat_le, if◌then◌else◌, ℕ, Bool, true, false, List, [], ◌∷◌, ◌++◌, length, refl, ap, sym, subst, ◌∙◌, arith, length-append}
use Rattle.std.proofs.lemmas.Bool.Decides.{nat_tests}
use Rattle.std.proofs.lemmas.Str.{char_from_byte, length-encode, len_utf8_bounds}
use Rattle.std.specs.Str.{encode_utf8_all}
use Rattle.std.specs.Char.{encode_utf8, is_ascii_alphabetic}
use Rattle.unicode_ident.proofs.IdentLemmas.{is_xid_start-ascii}
use Rattle.pat_lexer_spec.specs.Words.{Reserved, word_bytes, Interface, Def, Let, In, If, Else, Print, New, Spawn, Guard, Free, Fail, Receive, From, TrueWord, FalseWord, UnitWord, BoolWord, IntWord, StringWord}
use Rattle.pat_lexer_spec.specs.Marks.{Mark as MarkKind, mark_bytes, RoundOpen, RoundClose, CurlyOpen, CurlyClose, SquareOpen, SquareClose, Comma, Semicolon, Colon, Dot, Plus, Minus, Star, Less, Bang, Question, Equals, DoubleEquals, Arrow}
use Rattle.pat_lexer_spec.specs.Tokens.{Token, Name, Integer, Str, Word, Mark}
use Rattle.pat_lexer_spec.specs.Characters.{starts_name, is_digit, is_blank, Each, IsNameText}
use Rattle.pat_lexer_spec.specs.Lexemes.{Lexeme, Blank, Comment, Whole, TooWide, Fits}

-- a name may begin with the byte
abbrev pub is_name_front : ℕ → Bool
is_name_front b = is_ascii_alphabetic b || b == 95 || nat_le 128 b

-- the kinds of first bytes
pub data Class : Type 0 where
  Spaces : Class
  Digits : Class
  Quoted : Class
  Slashes : Class
  Marks : Class
  Names : Class

abbrev pub class : ℕ → Class
class b =
    if is_name_front b then Names else if is_blank b then Spaces else if is_digit b then Digits else if b == 34 then Quoted else if b == 47 then Slashes else Marks

-- the kind of first byte that a lexeme has
abbrev pub class_of : Lexeme → Class
class_of Blank = Spaces
class_of Comment = Slashes
class_of TooWide = Digits
class_of (Whole (Name x)) = Names
class_of (Whole (Integer n)) = Digits
class_of (Whole (Str x)) = Quoted
class_of (Whole (Word w)) = Names
class_of (Whole (Mark m)) = Marks

-- the bytes begin with one of this kind
pub record Fronts (own : List ℕ) (k : Class) : Type 0 where
  pub front : ℕ
  pub tail : List ℕ
  pub is : own ≡ front ∷ tail
  pub kind : class front ≡ k

if_true : {A : Type 0} (b : Bool) (x y : A) → b ≡ true → (if b then x else y) ≡ x
if_true b x y e = rw e refl

if_false : {A : Type 0} (b : Bool) (x y : A) → b ≡ false → (if b then x else y) ≡ y
if_false b x y e = rw e refl

blank_no_name : (b : ℕ) → is_blank b ≡ true → is_name_front b ≡ false
blank_no_name b h = grind (arith, nat_tests)

pub class_blank : (b : ℕ) → is_blank b ≡ true → class b ≡ Spaces
class_blank b h = if_false (is_name_front b) _ _ (blank_no_name b h) ∙ if_true (is_blank b) _ _ h

digit_no_name : (b : ℕ) → is_digit b ≡ true → is_name_front b ≡ false
digit_no_name b h = grind (arith, nat_tests)

digit_no_blank : (b : ℕ) → is_digit b ≡ true → is_blank b ≡ false
digit_no_blank b h = grind (arith, nat_tests)

pub class_digit : (b : ℕ) → is_digit b ≡ true → class b ≡ Digits
class_digit b h =
    if_false (is_name_front b) _ _ (digit_no_name b h) ∙ if_false (is_blank b) _ _ (digit_no_blank b h) ∙ if_true (is_digit b) _ _ h

pub class_name : (b : ℕ) → is_name_front b ≡ true → class b ≡ Names
class_name b h = if_true (is_name_front b) _ _ h

pub class_other : (b : ℕ) → is_name_front b ≡ false → is_blank b ≡ false → is_digit b ≡ false → (b == 34) ≡ false → (b == 47) ≡ false → class b ≡ Marks
class_other b n s d q l =
    if_false (is_name_front b) _ _ n ∙ if_false (is_blank b) _ _ s ∙ if_false (is_digit b) _ _ d ∙ if_false (b == 34) _ _ q ∙ if_false (b == 47) _ _ l

pub word_front : (w : Reserved) → Fronts (word_bytes w) Names
word_front Interface = record { front = _; tail = _; is = refl; kind = refl }
word_front Def = record { front = _; tail = _; is = refl; kind = refl }
word_front Let = record { front = _; tail = _; is = refl; kind = refl }
word_front In = record { front = _; tail = _; is = refl; kind = refl }
word_front If = record { front = _; tail = _; is = refl; kind = refl }
word_front Else = record { front = _; tail = _; is = refl; kind = refl }
word_front Print = record { front = _; tail = _; is = refl; kind = refl }
word_front New = record { front = _; tail = _; is = refl; kind = refl }
word_front Spawn = record { front = _; tail = _; is = refl; kind = refl }
word_front Guard = record { front = _; tail = _; is = refl; kind = refl }
word_front Free = record { front = _; tail = _; is = refl; kind = refl }
word_front Fail = record { front = _; tail = _; is = refl; kind = refl }
word_front Receive = record { front = _; tail = _; is = refl; kind = refl }
word_front From = record { front = _; tail = _; is = refl; kind = refl }
word_front TrueWord = record { front = _; tail = _; is = refl; kind = refl }
word_front FalseWord = record { front = _; tail = _; is = refl; kind = refl }
word_front UnitWord = record { front = _; tail = _; is = refl; kind = refl }
word_front BoolWord = record { front = _; tail = _; is = refl; kind = refl }
word_front IntWord = record { front = _; tail = _; is = refl; kind = refl }
word_front StringWord = record { front = _; tail = _; is = refl; kind = refl }

-- a case for each word and each mark, since each computes with its own bytes
pub mark_front : (m : MarkKind) → Fronts (mark_bytes m) Marks
mark_front RoundOpen = record { front = _; tail = _; is = refl; kind = refl }
mark_front RoundClose = record { front = _; tail = _; is = refl; kind = refl }
mark_front CurlyOpen = record { front = _; tail = _; is = refl; kind = refl }
mark_front CurlyClose = record { front = _; tail = _; is = refl; kind = refl }
mark_front SquareOpen = record { front = _; tail = _; is = refl; kind = refl }
mark_front SquareClose = record { front = _; tail = _; is = refl; kind = refl }
mark_front Comma = record { front = _; tail = _; is = refl; kind = refl }
mark_front Semicolon = record { front = _; tail = _; is = refl; kind = refl }
mark_front Colon = record { front = _; tail = _; is = refl; kind = refl }
mark_front Dot = record { front = _; tail = _; is = refl; kind = refl }
mark_front Plus = record { front = _; tail = _; is = refl; kind = refl }
mark_front Minus = record { front = _; tail = _; is = refl; kind = refl }
mark_front Star = record { front = _; tail = _; is = refl; kind = refl }
mark_front Less = record { front = _; tail = _; is = refl; kind = refl }
mark_front Bang = record { front = _; tail = _; is = refl; kind = refl }
mark_front Question = record { front = _; tail = _; is = refl; kind = refl }
mark_front Equals = record { front = _; tail = _; is = refl; kind = refl }
mark_front DoubleEquals = record { front = _; tail = _; is = refl; kind = refl }
mark_front Arrow = record { front = _; tail = _; is = refl; kind = refl }

pub digits_front : (own : List ℕ) → own ≢ [] → Each is_digit own → Fronts own Digits
digits_front [] some each = absurd (some refl)
digits_front (b ∷ bs) some each = record { front = b; tail = bs; is = refl; kind = class_digit b each.0 }

ascii_start : (b : ℕ) → b < 128 → starts_name b ≡ true → is_name_front b ≡ true
ascii_start b low s = let same = is_xid_start-ascii b low in grind (arith, nat_tests)

high_front : (b : ℕ) → 128 ≤ b → is_name_front b ≡ true
high_front b h = grind (arith, nat_tests)

pub high_class : (b : ℕ) → 128 ≤ b → class b ≡ Names
high_class b h = class_name b (high_front b h)

-- a text that begins with a character that a name may begin with
pub start_front : (c : ℕ) (rest bytes : List ℕ) → starts_name c ≡ true → bytes ≡ encode_utf8 c ++ rest → Fronts bytes Names
start_front c rest [] s e = absurd (omega (arith, ap length e, length-append (encode_utf8 c) rest, length-encode c, len_utf8_bounds c))
start_front c rest (b ∷ bs) s e = record { front = b; tail = bs; is = refl; kind = class_name b (known (nat_le 128 b) refl) }
  where
    known : (v : Bool) → nat_le 128 b ≡ v → is_name_front b ≡ true
    known true h = high_front b (grind (arith, nat_tests))
    known false h = let low : b < 128 = grind (arith, nat_tests) in let same : c ≡ b = char_from_byte (b ∷ bs) rest c e low (omega arith) in ascii_start b low (subst (λ x. starts_name x ≡ true) same s)

pub name_front : (own : List ℕ) → IsNameText own → Fronts own Names
name_front own n = start_front n.first (encode_utf8_all n.others) own n.starts n.spelled

token_front : (t : Token) (own rest : List ℕ) → Fits (Whole t) own rest → Fronts own (class_of (Whole t))
token_front (Name x) own rest f = name_front own f.1
token_front (Integer n) own rest f = digits_front own f.0.0 f.0.1
token_front (Str x) own rest f = record { front = 34; tail = f.0 ++ 34 ∷ []; is = f.1; kind = refl }
token_front (Word w) own rest f = subst (λ l. Fronts l Names) (sym f) (word_front w)
token_front (Mark m) own rest f = subst (λ l. Fronts l Marks) (sym f) (mark_front m)

-- a lexeme's first byte is of its kind
pub lexeme_front : (lexeme : Lexeme) (own rest : List ℕ) → Fits lexeme own rest → Fronts own (class_of lexeme)
lexeme_front Blank own rest f = record { front = f.0; tail = []; is = f.1; kind = class_blank f.0 f.2 }
lexeme_front Comment own rest f = record { front = 47; tail = 47 ∷ f.0; is = f.1; kind = refl }
lexeme_front TooWide own rest f = digits_front own f.0.0 f.0.1
lexeme_front (Whole t) own rest f = token_front t own rest f

-- the front of one text is of one kind
pub same_class : (k k' : Class) (own rest own' rest' : List ℕ) → Fronts own k → Fronts own' k' → own ++ rest ≡ own' ++ rest' → k ≡ k'
same_class k k' own rest own' rest' f f' e =
    let whole : f.front ∷ (f.tail ++ rest) ≡ f'.front ∷ (f'.tail ++ rest') = ap (λ l. l ++ rest) (sym f.is) ∙ e ∙ ap (λ l. l ++ rest') f'.is in
    let heads : f.front ≡ f'.front = cc in
    sym f.kind ∙ ap class heads ∙ f'.kind
