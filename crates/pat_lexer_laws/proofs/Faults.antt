-- Where nothing fits.
use Rattle.std.proofs.Common.{◌≡◌, ◌≢◌, ◌<◌, ◌≤◌, ◌==◌, ◌||◌, ◌⊎◌, inl, inr, ℕ, Bool, true, false, List, [], ◌∷◌, ◌++◌, length, refl, ap, sym, subst, ◌∙◌, arith, length-append, append_assoc}
use Rattle.std.specs.Str.{IsUtf8, encode_utf8_all, StartsWithNoChar}
use Rattle.std.specs.Char.{encode_utf8, IsScalar}
use Rattle.std.proofs.lemmas.Bool.Decides.{nat_tests}
use Rattle.pat_lexer_spec.specs.Words.{Reserved, word_bytes}
use Rattle.pat_lexer_spec.specs.Marks.{Mark as MarkKind, mark_bytes}
use Rattle.pat_lexer_spec.specs.Tokens.{Name, Str, Word}
use Rattle.pat_lexer_spec.specs.Characters.{starts_name, is_digit, is_in_line, is_plain, Each, FrontFails, number_after, Quotes, nothing, plain, quote, backslash}
use Rattle.pat_lexer_spec.specs.Lexemes.{Lexeme, Comment, Whole, TooWide, Fits, NothingFits, greatest}
use Rattle.pat_lexer_laws.proofs.Runs.{both, Each-append}
use Rattle.pat_lexer_laws.proofs.Numbers.{number_parts, number_grows}
use Rattle.pat_lexer_laws.proofs.Texts.{utf8_rest, utf8_front, scalars_first}
use Rattle.pat_lexer_laws.proofs.Classes.{lexeme_front, Fronts, same_class, class_of, Class, class, Quoted, Slashes, Marks, Names, high_class}
use Rattle.pat_lexer_laws.proofs.ByClass.{only_comment, only_string, only_mark, only_name}
use Rattle.pat_lexer_laws.proofs.Strings.{goes_on, first_of, rest_of, apart}
use Rattle.pat_lexer_laws.proofs.NameBeginnings.{word_text}

-- nothing fits where no lexeme fits that begins with a byte of the first byte's kind
nothing_of_kind : (b : ℕ) (tail : List ℕ) (k : Class) → class b ≡ k → ((lexeme : Lexeme) (own rest : List ℕ) → class_of lexeme ≡ k → Fits lexeme own rest → own ++ rest ≡ b ∷ tail → ⊥) → NothingFits (b ∷ tail)
nothing_of_kind b tail k kind none lexeme own rest f e =
    let here : Fronts (b ∷ []) k = record { front = b; tail = []; is = refl; kind = kind } in
    none lexeme own rest (same_class (class_of lexeme) k own rest (b ∷ []) tail (lexeme_front lexeme own rest f) here e) f e

-- a byte that begins no mark, nor anything else
pub no_mark : (b : ℕ) (tail : List ℕ) → class b ≡ Marks → ((m : MarkKind) (more : List ℕ) → mark_bytes m ≡ b ∷ more → ⊥) → NothingFits (b ∷ tail)
no_mark b tail kind none = nothing_of_kind b tail Marks kind (λ lexeme own rest k f e.
    let s = only_mark lexeme k in
    let own_is : own ≡ mark_bytes s.0 = subst (λ l. Fits l own rest) s.1 f in
    let front = lexeme_front lexeme own rest f in
    let heads : front.front ≡ b = ap first_of (ap (λ l. l ++ rest) (sym front.is) ∙ e) in
    none s.0 front.tail (sym own_is ∙ front.is ∙ ap (λ h. h ∷ front.tail) heads))

-- a slash alone
pub no_comment : (rest : List ℕ) → FrontFails (λ b. b == 47) rest → NothingFits (47 ∷ rest)
no_comment rest fails = nothing_of_kind 47 rest Slashes refl (λ lexeme own after k f e.
    let comment : Fits Comment own after = subst (λ l. Fits l own after) (only_comment lexeme k) f in
    let second : 47 ∷ (comment.0 ++ after) ≡ rest = ap rest_of (ap (λ l. l ++ after) (sym comment.1) ∙ e) in
    let there : FrontFails (λ b. b == 47) (47 ∷ (comment.0 ++ after)) = subst (FrontFails (λ b. b == 47)) (sym second) fails in
    both (47 == 47) refl there)

word_low : (own rest : List ℕ) (w : Reserved) (b : ℕ) (tail : List ℕ) → own ≡ word_bytes w → own ++ rest ≡ b ∷ tail → (c : ℕ) × (after : List ℕ) × IsScalar c × (starts_name c ≡ true) × (b ∷ tail ≡ encode_utf8 c ++ after)
word_low own rest w b tail same e =
    let n = word_text w in
    (n.first, encode_utf8_all n.others ++ rest, scalars_first n.first n.others n.scalars, n.starts, sym e ∙ ap (λ l. l ++ rest) (same ∙ n.spelled) ∙ append_assoc (encode_utf8 n.first) (encode_utf8_all n.others) rest)

-- a character that isn't ASCII, and that no name may begin with
pub no_name : (b : ℕ) (tail : List ℕ) → 128 ≤ b → ((c : ℕ) (after : List ℕ) → IsScalar c → b ∷ tail ≡ encode_utf8 c ++ after → starts_name c ≡ false) → NothingFits (b ∷ tail)
no_name b tail high none = nothing_of_kind b tail Names (high_class b high) (λ lexeme own rest k f e. from lexeme own rest (only_name lexeme k) f e)
  where
    from : (lexeme : Lexeme) (own rest : List ℕ) → ((x : List ℕ) × (lexeme ≡ Whole (Name x))) ⊎ ((w : Reserved) × (lexeme ≡ Whole (Word w))) → Fits lexeme own rest → own ++ rest ≡ b ∷ tail → ⊥
    from lexeme own rest (inl s) f e =
        let name : Fits (Whole (Name s.0)) own rest = subst (λ l. Fits l own rest) s.1 f in
        let n = name.1 in
        both (starts_name n.first) n.starts (none n.first (encode_utf8_all n.others ++ rest) (scalars_first n.first n.others n.scalars) (sym e ∙ ap (λ l. l ++ rest) n.spelled ∙ append_assoc (encode_utf8 n.first) (encode_utf8_all n.others) rest))
    from lexeme own rest (inr s) f e =
        let n = word_low own rest s.0 b tail (subst (λ l. Fits l own rest) s.1 f) e in
        both (starts_name n.0) n.3 (none n.0 n.1 n.2 n.4)

-- no string that has come so far ends in what follows
abbrev pub NoEnd : List ℕ → Type 0
NoEnd tail = (more text after : List ℕ) → Quotes more text → IsUtf8 more → tail ≡ more ++ 34 ∷ after → ⊥

pub no_string : (raw text tail : List ℕ) → Quotes raw text → IsUtf8 raw → NoEnd tail → NothingFits (34 ∷ (raw ++ tail))
no_string raw text tail q u none = nothing_of_kind 34 (raw ++ tail) Quoted refl (λ lexeme own rest k f e.
    let s = only_string lexeme k in
    let string : Fits (Whole (Str s.0)) own rest = subst (λ l. Fits l own rest) s.1 f in
    let inside : raw ++ tail ≡ string.0 ++ 34 ∷ rest = ap rest_of (sym e ∙ ap (λ l. l ++ rest) string.1) ∙ append_assoc string.0 (34 ∷ []) rest in
    let on = goes_on tail rest q string.3 inside in
    none on.more on.text rest on.quotes (utf8_rest raw on.more u (subst IsUtf8 on.whole_is string.2)) on.tail_is)

pub no_end_nil : NoEnd []
no_end_nil more text after q u e = omega (arith, ap length e, length-append more (34 ∷ after))

not_plain_byte : (b c : ℕ) → is_plain b ≡ true → c ≡ b → is_plain c ≡ false → ⊥
not_plain_byte b c p e n = both (is_plain b) p (ap is_plain (sym e) ∙ n)

-- a byte below the space
pub no_end_control : (b : ℕ) (rest : List ℕ) → is_plain b ≡ false → (b == 34) ≡ false → (b == 92) ≡ false → NoEnd (b ∷ rest)
no_end_control b rest control n34 n92 more text after q u e = from q e
  where
    from : {more text : List ℕ} → Quotes more text → b ∷ rest ≡ more ++ 34 ∷ after → ⊥
    from nothing e = both (b == 34) (subst (λ x. (x == 34) ≡ true) (sym (ap first_of e)) refl) n34
    from (plain {b = c} p q) e = not_plain_byte c b p (ap first_of e) control
    from (quote q) e = both (b == 92) (subst (λ x. (x == 92) ≡ true) (sym (ap first_of e)) refl) n92
    from (backslash q) e = both (b == 92) (subst (λ x. (x == 92) ≡ true) (sym (ap first_of e)) refl) n92

-- a backslash behind which stands neither a quote nor a backslash
pub no_end_escape : (rest : List ℕ) → FrontFails (λ b. b == 34 || b == 92) rest → NoEnd (92 ∷ rest)
no_end_escape rest fails more text after q u e = from q e
  where
    second : (b : ℕ) (xs : List ℕ) → (b == 34 || b == 92) ≡ true → rest ≡ b ∷ xs → ⊥
    second b xs t e = let there : FrontFails (λ x. x == 34 || x == 92) (b ∷ xs) = subst (FrontFails (λ x. x == 34 || x == 92)) e fails in both (b == 34 || b == 92) t there

    from : {more text : List ℕ} → Quotes more text → 92 ∷ rest ≡ more ++ 34 ∷ after → ⊥
    from nothing e = apart 92 34 refl refl (ap first_of e)
    from (plain {b = c} p q) e = not_plain_byte c 92 p (ap first_of e) refl
    from (quote {raw} q) e = second 34 (raw ++ 34 ∷ after) refl (ap rest_of e)
    from (backslash {raw} q) e = second 92 (raw ++ 34 ∷ after) refl (ap rest_of e)

some_or : (more : List ℕ) → (more ≡ []) ⊎ (more ≢ [])
some_or [] = inl refl
some_or (x ∷ xs) = inr (λ e. let no : ⊥ = cc in no)

-- no character
pub no_end_character : (b : ℕ) (rest : List ℕ) → 128 ≤ b → StartsWithNoChar (b ∷ rest) → NoEnd (b ∷ rest)
no_end_character b rest high none more text after q u e = from (some_or more)
  where
    from : (more ≡ []) ⊎ (more ≢ []) → ⊥
    from (inl nil) = let same : b ≡ 34 = ap first_of (e ∙ ap (λ l. l ++ 34 ∷ after) nil) in omega (arith, same, high)
    from (inr some) = utf8_front more (34 ∷ after) u some (subst StartsWithNoChar e none)

-- what is left of a line behind a front of it
record LineOn (body whole tail after : List ℕ) : Type 0 where
  more : List ℕ
  whole_is : whole ≡ body ++ more
  tail_is : tail ≡ more ++ after

line_on : (body whole tail after : List ℕ) → Each is_in_line body → FrontFails is_in_line after → body ++ tail ≡ whole ++ after → LineOn body whole tail after
line_on [] whole tail after each stops e = record { more = whole; whole_is = refl; tail_is = e }
line_on (b ∷ body) [] tail after each stops e = let there : FrontFails is_in_line (b ∷ (body ++ tail)) = subst (FrontFails is_in_line) (sym e) stops in absurd (both (is_in_line b) each.0 there)
line_on (b ∷ body) (c ∷ whole) tail after each stops e =
    let on = line_on body whole tail after each.1 stops (ap rest_of e) in
    record { more = on.more; whole_is = ap (λ h. h ∷ whole) (sym (ap first_of e)) ∙ ap (λ l. b ∷ l) on.whole_is; tail_is = on.tail_is }

-- a comment that goes on with no character
pub no_comment_text : (body : List ℕ) (b : ℕ) (rest : List ℕ) → IsUtf8 body → Each is_in_line body → 128 ≤ b → StartsWithNoChar (b ∷ rest) → NothingFits (47 ∷ 47 ∷ (body ++ b ∷ rest))
no_comment_text body b rest u each high none = nothing_of_kind 47 (47 ∷ (body ++ b ∷ rest)) Slashes refl (λ lexeme own after k f e.
    let comment : Fits Comment own after = subst (λ l. Fits l own after) (only_comment lexeme k) f in
    let inside : body ++ b ∷ rest ≡ comment.0 ++ after = ap (λ l. rest_of (rest_of l)) (sym e ∙ ap (λ l. l ++ after) comment.1) in
    let on = line_on body comment.0 (b ∷ rest) after each comment.4 inside in
    let text : IsUtf8 on.more = utf8_rest body on.more u (subst IsUtf8 on.whole_is comment.2) in
    from on.more after text comment.4 on.tail_is (some_or on.more))
  where
    low : (c : ℕ) → 128 ≤ c → is_in_line c ≡ true
    low c h = grind (arith, nat_tests)

    from : (more after : List ℕ) → IsUtf8 more → FrontFails is_in_line after → b ∷ rest ≡ more ++ after → (more ≡ []) ⊎ (more ≢ []) → ⊥
    from more after text stops e (inl nil) = let there : FrontFails is_in_line (b ∷ rest) = subst (FrontFails is_in_line) (sym (e ∙ ap (λ l. l ++ after) nil)) stops in both (is_in_line b) (low b high) there
    from more after text stops e (inr some) = utf8_front more after text some (subst StartsWithNoChar e none)

-- a run of digits, and what follows it
record DigitsSplit (text : List ℕ) : Type 0 where
  run : List ℕ
  after : List ℕ
  is : text ≡ run ++ after
  each : Each is_digit run
  stops : FrontFails is_digit after

digits_split : (text : List ℕ) → DigitsSplit text
digits_split [] = record { run = []; after = []; is = refl; each = tt; stops = tt }
digits_split (b ∷ text) = from (digits_split text) (is_digit b) refl
  where
    from : DigitsSplit text → (v : Bool) → is_digit b ≡ v → DigitsSplit (b ∷ text)
    from more true h = record { run = b ∷ more.run; after = more.after; is = ap (λ l. b ∷ l) more.is; each = (h, more.each); stops = more.stops }
    from more false h = record { run = []; after = b ∷ text; is = refl; each = tt; stops = h }

-- digits that are too wide already begin an integer that is too wide
pub wide_begins : (digits rest : List ℕ) → digits ≢ [] → Each is_digit digits → greatest < number_after 0 digits → (own after : List ℕ) × (own ++ after ≡ digits ++ rest) × Fits TooWide own after
wide_begins digits rest some each wide =
    let s = digits_split rest in
    let more : number_after 0 (digits ++ s.run) ≡ number_after (number_after 0 digits) s.run = number_parts 0 digits s.run in
    let grows = number_grows (number_after 0 digits) s.run in
    (digits ++ s.run, s.after, append_assoc digits s.run s.after ∙ ap (λ l. digits ++ l) (sym s.is), (((λ nil. some (front_nil digits s.run nil)), Each-append is_digit digits s.run each s.each, s.stops), omega (arith, more, grows, wide)))
  where
    front_nil : (xs ys : List ℕ) → xs ++ ys ≡ [] → xs ≡ []
    front_nil [] ys e = refl
    front_nil (x ∷ xs) ys e = absurd (let no : ⊥ = cc in no)
