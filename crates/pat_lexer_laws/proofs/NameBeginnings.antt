-- Which name or word a text begins with.
use Rattle.std.proofs.Common.{◌≡◌, ◌≢◌, ◌<◌, ◌≤◌, ◌==◌, ◌||◌, ◌⊎◌, inl, inr, ℕ, Bool, true, false, List, [], ◌∷◌, ◌++◌, length, refl, ap, sym, subst, ◌∙◌, arith, length-append, append_assoc, append-nil}
use Rattle.std.proofs.lemmas.Bool.Decides.{nat_tests}
use Rattle.std.proofs.lemmas.Str.{encode_same, encode_ascii, encodes-append}
use Rattle.std.specs.Str.{encode_utf8_all, all_scalars}
use Rattle.std.specs.Char.{encode_utf8, IsScalar, is_ascii_alphabetic, is_ascii_alphanumeric}
use lib.Utf8.{low_scalar}
use Rattle.unicode_ident.proofs.IdentLemmas.{is_xid_start-ascii, is_xid_continue-ascii}
use Rattle.pat_lexer_spec.specs.Words.{Reserved, word_bytes, Interface, Def, Let, In, If, Else, Print, New, Spawn, Guard, Free, Fail, Receive, From, TrueWord, FalseWord, UnitWord, BoolWord, IntWord, StringWord}
use Rattle.pat_lexer_spec.specs.Tokens.{Name, Word}
use Rattle.pat_lexer_spec.specs.Characters.{starts_name, continues_name, Each, IsNameText}
use Rattle.pat_lexer_spec.specs.Lexemes.{Lexeme, Whole, Fits, Begins}
use Rattle.pat_lexer_laws.proofs.Runs.{both, Each-append}
use Rattle.pat_lexer_laws.proofs.Texts.{scalars_first, scalars_rest}
use Rattle.pat_lexer_laws.proofs.ByClass.{only_name}
use Rattle.pat_lexer_laws.proofs.Beginnings.{longest_of_kind}

-- an ASCII character that a name may go on with
abbrev pub is_name_byte : ℕ → Bool
is_name_byte b = is_ascii_alphanumeric b || b == 95

-- an ASCII character that a name may begin with
abbrev pub is_name_start : ℕ → Bool
is_name_start b = is_ascii_alphabetic b || b == 95

-- what a name can't go on with
abbrev pub NoMoreName : List ℕ → Type 0
NoMoreName rest = (c : ℕ) (after : List ℕ) → IsScalar c → rest ≡ encode_utf8 c ++ after → continues_name c ≡ false

name_byte_low : (b : ℕ) → is_name_byte b ≡ true → b < 128
name_byte_low b h = grind (arith, nat_tests)

start_byte : (b : ℕ) → is_name_start b ≡ true → is_name_byte b ≡ true
start_byte b h = grind (arith, nat_tests)

pub ascii_continues : (b : ℕ) → is_name_byte b ≡ true → continues_name b ≡ true
ascii_continues b h = is_xid_continue-ascii b (name_byte_low b h) ∙ h

ascii_starts : (b : ℕ) → is_name_start b ≡ true → starts_name b ≡ true
ascii_starts b h = let same = is_xid_start-ascii b (name_byte_low b (start_byte b h)) in grind (arith, nat_tests)

-- ASCII characters are their own bytes
pub ascii_encodes : (bs : List ℕ) → Each is_name_byte bs → encode_utf8_all bs ≡ bs
ascii_encodes [] each = refl
ascii_encodes (b ∷ bs) each = ap (λ l. l ++ encode_utf8_all bs) (encode_ascii b (name_byte_low b each.0)) ∙ ap (λ l. b ∷ l) (ascii_encodes bs each.1)

ascii_scalars : (bs : List ℕ) → Each is_name_byte bs → all_scalars bs ≡ true
ascii_scalars [] each = refl
ascii_scalars (b ∷ bs) each = let low = name_byte_low b each.0 in rw (low_scalar b (omega (arith, low))) (ascii_scalars bs each.1)

ascii_each : (bs : List ℕ) → Each is_name_byte bs → Each continues_name bs
ascii_each [] each = tt
ascii_each (b ∷ bs) each = (ascii_continues b each.0, ascii_each bs each.1)

-- a run of ASCII characters that begins as a name does is the text of a name
pub ascii_name : (b : ℕ) (bs : List ℕ) → is_name_start b ≡ true → Each is_name_byte bs → IsNameText (b ∷ bs)
ascii_name b bs s each = record {
  first = b;
  others = bs;
  scalars = ascii_scalars (b ∷ bs) (start_byte b s, each);
  starts = ascii_starts b s;
  continues = ascii_each bs each;
  spelled = sym (ascii_encodes (b ∷ bs) (start_byte b s, each));
}

scalars_append : (xs ys : List ℕ) → all_scalars xs ≡ true → all_scalars ys ≡ true → all_scalars (xs ++ ys) ≡ true
scalars_append [] ys a b = b
scalars_append (x ∷ xs) ys a b = rw (scalars_first x xs a) (scalars_append xs ys (scalars_rest x xs a) b)

-- a name with more characters that go on with it
pub name_more : (own : List ℕ) (cs : List ℕ) → IsNameText own → all_scalars cs ≡ true → Each continues_name cs → IsNameText (own ++ encode_utf8_all cs)
name_more own cs n s each = record {
  first = n.first;
  others = n.others ++ cs;
  scalars = scalars_append (n.first ∷ n.others) cs n.scalars s;
  starts = n.starts;
  continues = Each-append continues_name n.others cs n.continues each;
  spelled = ap (λ l. l ++ encode_utf8_all cs) n.spelled ∙ sym (encodes-append (n.first ∷ n.others) cs);
}

pub name_more_ascii : (own bs : List ℕ) → IsNameText own → Each is_name_byte bs → IsNameText (own ++ bs)
name_more_ascii own bs n each = subst (λ l. IsNameText (own ++ l)) (ascii_encodes bs each) (name_more own bs n (ascii_scalars bs each) (ascii_each bs each))

-- one character that a name may begin with is the text of a name
pub name_of_one : (c : ℕ) → IsScalar c → starts_name c ≡ true → IsNameText (encode_utf8 c)
name_of_one c s h = record {
  first = c;
  others = [];
  scalars = rw s refl;
  starts = h;
  continues = tt;
  spelled = sym (append-nil (encode_utf8 c));
}

chars_longest : (cs ds rest more : List ℕ) → all_scalars ds ≡ true → Each continues_name ds → NoMoreName rest → encode_utf8_all ds ++ more ≡ encode_utf8_all cs ++ rest → length (encode_utf8_all ds) ≤ length (encode_utf8_all cs)
chars_longest cs [] rest more s each n e = omega arith
chars_longest [] (d ∷ ds) rest more s each n e =
    absurd (both (continues_name d) each.0 (n d (encode_utf8_all ds ++ more) (scalars_first d ds s) (sym e ∙ append_assoc (encode_utf8 d) (encode_utf8_all ds) more)))
chars_longest (c ∷ cs) (d ∷ ds) rest more s each n e =
    let same = encode_same d c (encode_utf8_all ds ++ more) (encode_utf8_all cs ++ rest) (sym (append_assoc (encode_utf8 d) (encode_utf8_all ds) more) ∙ e ∙ append_assoc (encode_utf8 c) (encode_utf8_all cs) rest) in
    let more_of = chars_longest cs ds rest more (scalars_rest d ds s) each.1 n same.1 in
    let heads : length (encode_utf8 d) ≡ length (encode_utf8 c) = ap (λ x. length (encode_utf8 x)) same.0 in
    omega (arith, more_of, heads, length-append (encode_utf8 d) (encode_utf8_all ds), length-append (encode_utf8 c) (encode_utf8_all cs))

names_longest : (own bytes rest more : List ℕ) → IsNameText own → IsNameText bytes → NoMoreName rest → bytes ++ more ≡ own ++ rest → length bytes ≤ length own
names_longest own bytes rest more f g n e =
    let whole : encode_utf8_all (g.first ∷ g.others) ++ more ≡ encode_utf8_all (f.first ∷ f.others) ++ rest = ap (λ l. l ++ more) (sym g.spelled) ∙ e ∙ ap (λ l. l ++ rest) f.spelled in
    let same = encode_same g.first f.first (encode_utf8_all g.others ++ more) (encode_utf8_all f.others ++ rest) (sym (append_assoc (encode_utf8 g.first) (encode_utf8_all g.others) more) ∙ whole ∙ append_assoc (encode_utf8 f.first) (encode_utf8_all f.others) rest) in
    let others = chars_longest f.others g.others rest more (scalars_rest g.first g.others g.scalars) g.continues n same.1 in
    let heads : length (encode_utf8 g.first) ≡ length (encode_utf8 f.first) = ap (λ x. length (encode_utf8 x)) same.0 in
    omega (arith, others, heads, ap length f.spelled, ap length g.spelled, length-append (encode_utf8 g.first) (encode_utf8_all g.others), length-append (encode_utf8 f.first) (encode_utf8_all f.others))

-- the bytes of a word are the text of a name
pub word_text : (w : Reserved) → IsNameText (word_bytes w)
word_text Interface = ascii_name 105 _ refl (refl, (refl, (refl, (refl, (refl, (refl, (refl, (refl, tt))))))))
word_text Def = ascii_name 100 _ refl (refl, (refl, tt))
word_text Let = ascii_name 108 _ refl (refl, (refl, tt))
word_text In = ascii_name 105 _ refl (refl, tt)
word_text If = ascii_name 105 _ refl (refl, tt)
word_text Else = ascii_name 101 _ refl (refl, (refl, (refl, tt)))
word_text Print = ascii_name 112 _ refl (refl, (refl, (refl, (refl, tt))))
word_text New = ascii_name 110 _ refl (refl, (refl, tt))
word_text Spawn = ascii_name 115 _ refl (refl, (refl, (refl, (refl, tt))))
word_text Guard = ascii_name 103 _ refl (refl, (refl, (refl, (refl, tt))))
word_text Free = ascii_name 102 _ refl (refl, (refl, (refl, tt)))
word_text Fail = ascii_name 102 _ refl (refl, (refl, (refl, tt)))
word_text Receive = ascii_name 114 _ refl (refl, (refl, (refl, (refl, (refl, (refl, tt))))))
word_text From = ascii_name 102 _ refl (refl, (refl, (refl, tt)))
word_text TrueWord = ascii_name 116 _ refl (refl, (refl, (refl, tt)))
word_text FalseWord = ascii_name 102 _ refl (refl, (refl, (refl, (refl, tt))))
word_text UnitWord = ascii_name 85 _ refl (refl, (refl, (refl, tt)))
word_text BoolWord = ascii_name 66 _ refl (refl, (refl, (refl, tt)))
word_text IntWord = ascii_name 73 _ refl (refl, (refl, tt))
word_text StringWord = ascii_name 83 _ refl (refl, (refl, (refl, (refl, (refl, tt)))))

longest : (own rest : List ℕ) → IsNameText own → NoMoreName rest → (other : Lexeme) (bytes more : List ℕ) → ((x : List ℕ) × (other ≡ Whole (Name x))) ⊎ ((w : Reserved) × (other ≡ Whole (Word w))) → Fits other bytes more → bytes ++ more ≡ own ++ rest → length bytes ≤ length own
longest own rest f n other bytes more (inl s) g e = let name : Fits (Whole (Name s.0)) bytes more = subst (λ l. Fits l bytes more) s.1 g in names_longest own bytes rest more f name.1 n e
longest own rest f n other bytes more (inr s) g e = let word : bytes ≡ word_bytes s.0 = subst (λ l. Fits l bytes more) s.1 g in names_longest own bytes rest more f (subst IsNameText (sym word) (word_text s.0)) n e

-- a name, where nothing goes on with it
pub name_begins : (own rest : List ℕ) → IsNameText own → ((w : Reserved) → own ≢ word_bytes w) → NoMoreName rest → Begins (Whole (Name own)) own rest
name_begins own rest f none n = longest_of_kind (Whole (Name own)) own rest (refl, f, none) (λ other bytes more k g e. longest own rest f n other bytes more (only_name other k) g e)

-- a word, where nothing goes on with it
pub word_begins : (w : Reserved) (own rest : List ℕ) → own ≡ word_bytes w → NoMoreName rest → Begins (Whole (Word w)) own rest
word_begins w own rest same n = longest_of_kind (Whole (Word w)) own rest same (λ other bytes more k g e. longest own rest (subst IsNameText (sym same) (word_text w)) n other bytes more (only_name other k) g e)
