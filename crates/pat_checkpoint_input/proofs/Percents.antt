-- No line of a text that divides into tokens begins with a percent sign, which only strings and comments may have.
use Rattle.std.proofs.Common.{◌≡◌, ◌≤◌, ◌⊎◌, ◌+◌, ◌-◌, ◌/◌, ◌%◌, nat_lt, cond, ℕ, Bool, true, false, List, [], ◌∷◌, ◌++◌, length, refl, sym, ap, subst, ◌∙◌, inl, inr, ⊎_elim, arith, length-append, append_assoc}
use Rattle.std.proofs.lemmas.Bool.Decides.{nat_tests}
use Rattle.std.specs.Str.{encode_utf8_all}
use Rattle.std.specs.Char.{encode_utf8}
use Rattle.unicode_ident.proofs.IdentLemmas.{is_xid_start-ascii, is_xid_continue-ascii}
use Rattle.pat_lexer_spec.specs.Words.{word_bytes}
use Rattle.pat_lexer_spec.specs.Marks.{Mark as MarkKind, mark_bytes, RoundOpen, RoundClose, CurlyOpen, CurlyClose, SquareOpen, SquareClose, Comma, Semicolon, Colon, Dot, Plus, Minus, Star, Less, Bang, Question, Equals, DoubleEquals, Arrow}
use Rattle.pat_lexer_spec.specs.Tokens.{Token, Name, Integer, Str, Word, Mark, Spanned}
use Rattle.pat_lexer_spec.specs.Characters.{starts_name, continues_name, is_digit, is_plain, is_in_line, Each, IsNameText, Quotes, nothing, plain, quote, backslash}
use Rattle.pat_lexer_spec.specs.Lexemes.{Lexeme, Blank, Comment, Whole, TooWide, Fits}
use Rattle.pat_lexer_spec.specs.Divisions.{Reaches, here, over, token}
use Rattle.pat_lexer_laws.proofs.Classes.{Class, Marks, class, class_of, Fronts, lexeme_front}
use Rattle.pat_lexer_laws.proofs.NameBeginnings.{word_text}

-- whole lines
abbrev pub EndsLine : List ℕ → Type 0
EndsLine u = (u ≡ []) ⊎ ((v : List ℕ) × (u ≡ v ++ 10 ∷ []))

-- ---- lists

-- where two ways to join a list meet: the first front is within the second, or goes beyond it
record Within (own after u rest : List ℕ) : Type 0 where
  left : List ℕ
  front : u ≡ own ++ left
  behind : after ≡ left ++ rest

record Beyond (own u : List ℕ) (b : ℕ) : Type 0 where
  left : List ℕ
  front : own ≡ u ++ b ∷ left

meet : (own after u : List ℕ) (b : ℕ) (w : List ℕ) → own ++ after ≡ u ++ b ∷ w → Within own after u (b ∷ w) ⊎ Beyond own u b
meet [] after u b w e = inl (record { left = u; front = refl; behind = e })
meet (x ∷ own) after [] b w e =
    let same : x ≡ b = ap (λ l. first_or l b) e in
    inr (record { left = own; front = ap (λ y. y ∷ own) same })
  where
    first_or : List ℕ → ℕ → ℕ
    first_or [] d = d
    first_or (y ∷ ys) d = y
meet (x ∷ own) after (y ∷ u) b w e =
    let same : x ≡ y = ap (λ l. first_or l y) e in
    let rest : own ++ after ≡ u ++ b ∷ w = ap behind_first e in
    ⊎_elim
    (λ (i : Within own after u (b ∷ w)). inl (record { left = i.left; front = ap (λ l. y ∷ l) i.front ∙ ap (λ z. z ∷ (own ++ i.left)) (sym same); behind = i.behind }))
    (λ (o : Beyond own u b). inr (record { left = o.left; front = ap (λ z. z ∷ own) same ∙ ap (λ l. y ∷ l) o.front }))
    (meet own after u b w rest)
  where
    first_or : List ℕ → ℕ → ℕ
    first_or [] d = d
    first_or (z ∷ zs) d = z

    behind_first : List ℕ → List ℕ
    behind_first [] = []
    behind_first (z ∷ zs) = zs

-- ---- bytes of one line

in_line : ℕ → Type 0
in_line b = is_in_line b ≡ true

joined : (xs ys : List ℕ) → Each is_in_line xs → Each is_in_line ys → Each is_in_line (xs ++ ys)
joined [] ys h k = k
joined (x ∷ xs) ys h k = (h.0, joined xs ys h.1 k)

each_so : (p : ℕ → Bool) → ((b : ℕ) → p b ≡ true → is_in_line b ≡ true) → (xs : List ℕ) → Each p xs → Each is_in_line xs
each_so p so [] h = tt
each_so p so (x ∷ xs) h = (so x h.0, each_so p so xs h.1)

-- a byte 10 isn't one of them
broken : (v x : List ℕ) → Each is_in_line (v ++ 10 ∷ x) → ⊥
broken [] x h = let clash : false ≡ true = h.0 in cc
broken (b ∷ v) x h = broken v x h.1

other : (b : ℕ) → (b ≡ 10 → ⊥) → is_in_line b ≡ true
other b h = grind (arith, nat_tests)

digit : (b : ℕ) → is_digit b ≡ true → is_in_line b ≡ true
digit b h = grind (arith, nat_tests)

plain_byte : (b : ℕ) → is_plain b ≡ true → is_in_line b ≡ true
plain_byte b h = grind (arith, nat_tests)

between_quotes : (raw text : List ℕ) → Quotes raw text → Each is_in_line raw
between_quotes raw text nothing = tt
between_quotes raw text (plain {b = b} {raw = more} {text = told} p q) = (plain_byte b p, between_quotes more told q)
between_quotes raw text (quote {raw = more} {text = told} q) = (refl, (refl, between_quotes more told q))
between_quotes raw text (backslash {raw = more} {text = told} q) = (refl, (refl, between_quotes more told q))

-- a character's bytes are, unless it is a newline
character : (c : ℕ) → (c ≡ 10 → ⊥) → Each is_in_line (encode_utf8 c)
unfolding encode_utf8
character c h = go (nat_lt c 128) (nat_lt c 2048) (nat_lt c 65536)
  where
    high : (k b : ℕ) → 128 ≤ k → is_in_line (k + b) ≡ true
    high k b more = other (k + b) (λ is. omega (arith, more, is))

    go : (x y z : Bool) → Each is_in_line (cond x (c ∷ []) (cond y ((192 + c / 64) ∷ (128 + c % 64) ∷ []) (cond z ((224 + c / 4096) ∷ (128 + c / 64 % 64) ∷ (128 + c % 64) ∷ []) ((240 + c / 262144) ∷ (128 + c / 4096 % 64) ∷ (128 + c / 64 % 64) ∷ (128 + c % 64) ∷ []))))
    go true y z = (other c h, tt)
    go false true z = (high 192 _ (omega arith), (high 128 _ (omega arith), tt))
    go false false true = (high 224 _ (omega arith), (high 128 _ (omega arith), (high 128 _ (omega arith), tt)))
    go false false false = (high 240 _ (omega arith), (high 128 _ (omega arith), (high 128 _ (omega arith), (high 128 _ (omega arith), tt))))

starts : (c : ℕ) → starts_name c ≡ true → c ≡ 10 → ⊥
starts c s is = let newline : starts_name 10 ≡ true = subst (λ x. starts_name x ≡ true) is s in let ascii = is_xid_start-ascii 10 (omega arith) in grind (arith, nat_tests)

continues : (c : ℕ) → continues_name c ≡ true → c ≡ 10 → ⊥
continues c s is = let newline : continues_name 10 ≡ true = subst (λ x. continues_name x ≡ true) is s in let ascii = is_xid_continue-ascii 10 (omega arith) in grind (arith, nat_tests)

characters : (cs : List ℕ) → Each continues_name cs → Each is_in_line (encode_utf8_all cs)
characters [] h = tt
characters (c ∷ cs) h = joined (encode_utf8 c) (encode_utf8_all cs) (character c (continues c h.0)) (characters cs h.1)

name : (own : List ℕ) → IsNameText own → Each is_in_line own
name own n = subst (Each is_in_line) (sym n.spelled) (joined (encode_utf8 n.first) (encode_utf8_all n.others) (character n.first (starts n.first n.starts)) (characters n.others n.continues))

mark : (m : MarkKind) → Each is_in_line (mark_bytes m)
mark RoundOpen = (refl, tt)
mark RoundClose = (refl, tt)
mark CurlyOpen = (refl, tt)
mark CurlyClose = (refl, tt)
mark SquareOpen = (refl, tt)
mark SquareClose = (refl, tt)
mark Comma = (refl, tt)
mark Semicolon = (refl, tt)
mark Colon = (refl, tt)
mark Dot = (refl, tt)
mark Plus = (refl, tt)
mark Minus = (refl, tt)
mark Star = (refl, tt)
mark Less = (refl, tt)
mark Bang = (refl, tt)
mark Question = (refl, tt)
mark Equals = (refl, tt)
mark DoubleEquals = (refl, (refl, tt))
mark Arrow = (refl, (refl, tt))

-- none begins with a percent sign
first_is : (x y : ℕ) (xs ys : List ℕ) → x ∷ xs ≡ y ∷ ys → x ≡ y
first_is x y xs ys e = cc

no_mark : (m : MarkKind) (x : List ℕ) → mark_bytes m ≡ 37 ∷ x → ⊥
no_mark RoundOpen x e = let clash = first_is _ _ _ _ e in omega (arith, clash)
no_mark RoundClose x e = let clash = first_is _ _ _ _ e in omega (arith, clash)
no_mark CurlyOpen x e = let clash = first_is _ _ _ _ e in omega (arith, clash)
no_mark CurlyClose x e = let clash = first_is _ _ _ _ e in omega (arith, clash)
no_mark SquareOpen x e = let clash = first_is _ _ _ _ e in omega (arith, clash)
no_mark SquareClose x e = let clash = first_is _ _ _ _ e in omega (arith, clash)
no_mark Comma x e = let clash = first_is _ _ _ _ e in omega (arith, clash)
no_mark Semicolon x e = let clash = first_is _ _ _ _ e in omega (arith, clash)
no_mark Colon x e = let clash = first_is _ _ _ _ e in omega (arith, clash)
no_mark Dot x e = let clash = first_is _ _ _ _ e in omega (arith, clash)
no_mark Plus x e = let clash = first_is _ _ _ _ e in omega (arith, clash)
no_mark Minus x e = let clash = first_is _ _ _ _ e in omega (arith, clash)
no_mark Star x e = let clash = first_is _ _ _ _ e in omega (arith, clash)
no_mark Less x e = let clash = first_is _ _ _ _ e in omega (arith, clash)
no_mark Bang x e = let clash = first_is _ _ _ _ e in omega (arith, clash)
no_mark Question x e = let clash = first_is _ _ _ _ e in omega (arith, clash)
no_mark Equals x e = let clash = first_is _ _ _ _ e in omega (arith, clash)
no_mark DoubleEquals x e = let clash = first_is _ _ _ _ e in omega (arith, clash)
no_mark Arrow x e = let clash = first_is _ _ _ _ e in omega (arith, clash)

-- the class of a percent sign is that of marks
front_class : (own x : List ℕ) (k : Class) → own ≡ 37 ∷ x → Fronts own k → k ≡ Marks
front_class own x k is f =
    let same : f.front ≡ 37 = first_is f.front 37 f.tail x (sym f.is ∙ is) in
    sym f.kind ∙ ap class same

no_token : (t : Token) (own rest x : List ℕ) → Fits (Whole t) own rest → own ≡ 37 ∷ x → ⊥
no_token (Mark m) own rest x f is = no_mark m x (sym f ∙ is)
no_token (Name y) own rest x f is = let k = front_class own x (class_of (Whole (Name y))) is (lexeme_front (Whole (Name y)) own rest f) in cc
no_token (Integer n) own rest x f is = let k = front_class own x (class_of (Whole (Integer n))) is (lexeme_front (Whole (Integer n)) own rest f) in cc
no_token (Str y) own rest x f is = let k = front_class own x (class_of (Whole (Str y))) is (lexeme_front (Whole (Str y)) own rest f) in cc
no_token (Word w) own rest x f is = let k = front_class own x (class_of (Whole (Word w))) is (lexeme_front (Whole (Word w)) own rest f) in cc

begins : (lexeme : Lexeme) (own rest x : List ℕ) → Fits lexeme own rest → own ≡ 37 ∷ x → ⊥
begins Blank own rest x f is = let k = front_class own x (class_of Blank) is (lexeme_front Blank own rest f) in cc
begins Comment own rest x f is = let k = front_class own x (class_of Comment) is (lexeme_front Comment own rest f) in cc
begins TooWide own rest x f is = let k = front_class own x (class_of TooWide) is (lexeme_front TooWide own rest f) in cc
begins (Whole t) own rest x f is = no_token t own rest x f is

-- a lexeme is one byte, or lies in one line
token_line : (t : Token) (own rest : List ℕ) → Fits (Whole t) own rest → Each is_in_line own
token_line (Name y) own rest f = name own f.1
token_line (Integer n) own rest f = each_so is_digit digit own f.0.1
token_line (Str y) own rest f = subst (Each is_in_line) (sym f.1) (refl, joined f.0 (34 ∷ []) (between_quotes f.0 y f.3) (refl, tt))
token_line (Word w) own rest f = subst (Each is_in_line) (sym f) (name (word_bytes w) (word_text w))
token_line (Mark m) own rest f = subst (Each is_in_line) (sym f) (mark m)

goes_on : (lexeme : Lexeme) (own rest v x : List ℕ) → Fits lexeme own rest → own ≡ v ++ 10 ∷ 37 ∷ x → ⊥
goes_on Blank own rest v x f is =
    let sizes = ap length is ∙ length-append v (10 ∷ 37 ∷ x) in
    let one = ap length f.1 in
    omega (arith, sizes, one)
goes_on Comment own rest v x f is = broken v (37 ∷ x) (subst (Each is_in_line) is (subst (Each is_in_line) (sym f.1) (refl, (refl, f.3))))
goes_on TooWide own rest v x f is = broken v (37 ∷ x) (subst (Each is_in_line) is (each_so is_digit digit own f.0.1))
goes_on (Whole t) own rest v x f is = broken v (37 ∷ x) (subst (Each is_in_line) is (token_line t own rest f))

-- no lexeme has a percent sign that begins a line
no_percent : (lexeme : Lexeme) (own rest u : List ℕ) → Fits lexeme own rest → EndsLine u → Beyond own u 37 → ⊥
no_percent lexeme own rest u f ends o =
    ⊎_elim
    (λ (none : u ≡ []). begins lexeme own rest o.left f (o.front ∙ ap (λ l. l ++ 37 ∷ o.left) none))
    (λ (line : (v : List ℕ) × (u ≡ v ++ 10 ∷ [])). goes_on lexeme own rest line.0 o.left f (o.front ∙ ap (λ l. l ++ 37 ∷ o.left) line.1 ∙ append_assoc line.0 (10 ∷ []) (37 ∷ o.left)))
    ends

-- what is left of whole lines is whole lines
ends_left : (own left : List ℕ) → EndsLine (own ++ left) → EndsLine left
ends_left own [] ends = inl refl
ends_left own (b ∷ left) ends =
    ⊎_elim
    (λ (none : own ++ b ∷ left ≡ []). let sizes = ap length none ∙ refl in absurd (omega (arith, sizes, length-append own (b ∷ left))))
    (λ (line : (v : List ℕ) × (own ++ b ∷ left ≡ v ++ 10 ∷ [])). last_left own b left line.0 line.1)
    ends
  where
    last_left : (own : List ℕ) (b : ℕ) (left v : List ℕ) → own ++ b ∷ left ≡ v ++ 10 ∷ [] → EndsLine (b ∷ left)
    last_left [] b left v e = inr (v, e)
    last_left (x ∷ own) b left [] e =
        let sizes = ap length e in
        absurd (omega (arith, sizes, length-append own (b ∷ left)))
    last_left (x ∷ own) b left (y ∷ v) e = last_left own b left v (ap behind_first e)
      where
        behind_first : List ℕ → List ℕ
        behind_first [] = []
        behind_first (z ∷ zs) = zs

module _ (w : List ℕ) where
  pub no_line_begins : (at to : ℕ) (text rest u : List ℕ) (tokens : List Spanned) → Reaches at text tokens to rest → rest ≡ [] → text ≡ u ++ 37 ∷ w → EndsLine u → ⊥
  no_line_begins at to text rest u tokens here none is ends =
      let sizes = ap length (sym none ∙ is) ∙ length-append u (37 ∷ w) in
      omega (arith, sizes)
  no_line_begins at to text rest u tokens (over {own = own} {after = after} {lexeme = lexeme} kind b whole more) none is ends =
      ⊎_elim
      (λ (i : Within own after u (37 ∷ w)). no_line_begins (at + length own) to after rest i.left tokens more none i.behind (ends_left own i.left (subst EndsLine i.front ends)))
      (λ (o : Beyond own u 37). no_percent lexeme own after u b.fits ends o)
      (meet own after u 37 w (whole ∙ is))
  no_line_begins at to text rest u tokens (token {own = own} {after = after} {t = t} {tokens = others} b whole more) none is ends =
      ⊎_elim
      (λ (i : Within own after u (37 ∷ w)). no_line_begins (at + length own) to after rest i.left others more none i.behind (ends_left own i.left (subst EndsLine i.front ends)))
      (λ (o : Beyond own u 37). no_percent (Whole t) own after u b.fits ends o)
      (meet own after u 37 w (whole ∙ is))
