-- What reading does inside an unfinished piece.
use Rattle.std.proofs.Common.{◌≡◌, ◌≢◌, ◌+◌, ◌<◌, ◌≤◌, ◌==◌, ◌||◌, nat_lt, inr, ℕ, ℤ, zero, suc, get_or, pos, Bool, true, false, List, [], ◌∷◌, ◌++◌, length, refl, ap, sym, subst, ◌∙◌, arith, length-append, append_assoc, append-nil}
use Rattle.std.proofs.lemmas.Bool.Decides.{nat_tests}
use Rattle.std.proofs.lemmas.Str.{IsUtf8-append, IsUtf8-from_ascii}
use Rattle.std.specs.Str.{IsUtf8}
use Rattle.pat_lexer_spec.specs.Marks.{Equals as EqualsMark, Minus as MinusMark, DoubleEquals, Arrow}
use Rattle.pat_lexer_spec.specs.Tokens.{Token, Spanned, Integer as IntegerToken, Str as StrToken, Mark}
use Rattle.pat_lexer_spec.specs.Lexemes.{Comment as CommentLexeme, Whole, Begins, greatest}
use Rattle.pat_lexer_spec.specs.Divisions.{Reaches, IsRefused, BadToken, NumberTooWide}
use Rattle.pat_lexer_spec.specs.Characters.{is_digit, is_plain, is_in_line, Each, FrontFails, number_after, Quotes, quote, backslash, nothing}
use Rattle.pat_lexer_laws.proofs.Runs.{both, Each-append}
use Rattle.pat_lexer_laws.proofs.Numbers.{number_parts}
use Rattle.pat_lexer_laws.proofs.Reaching.{over_more}
use Rattle.pat_lexer_laws.proofs.Strings.{quotes_append, quotes_plain}
use Rattle.pat_lexer_laws.proofs.Beginnings.{integer_begins, string_begins, comment_begins}
use Rattle.pat_lexer_laws.proofs.MarkBeginnings.{mark_begins}
use Rattle.pat_lexer_laws.proofs.NameBeginnings.{NoMoreName, name_more_ascii}
use Rattle.pat_lexer_laws.proofs.Faults.{no_string, no_end_escape, no_comment, wide_begins, NoEnd}
use Rattle.pat_lexer.specs.declared.unfinished.Unfinished.{Unfinished}
use Rattle.pat_lexer.specs.declared.unfinished.Unfinished.TheVariants.{Nothing, Name, Integer, Str, Escape, Equals, Minus, Slash, Comment}
use Rattle.pat_lexer.specs.fronts.Bytes.{is_name_byte, is_plain_ascii}
use Rattle.pat_lexer.specs.Progress.{Progress, HasKind, Stands}
use Rattle.pat_lexer.specs.Changes.{with_token, with_held}
use Rattle.pat_lexer.proofs.Standing.{Opened, opened_of, stands_of, stands_free, with_token_stands}
use Rattle.pat_lexer.specs.fronts.Spelled.{IsNameToken}
use Rattle.pat_lexer.proofs.Between.{refused_at, name_token_begins}

-- what is known of the unfinished piece, by its kind
pub kind_of : (p : Progress) (u : Unfinished) (text rest : List ℕ) → p.unfinished ≡ u → (o : Opened p text rest) → HasKind u p o.opened
kind_of p u text rest e o = subst (λ x. HasKind x p o.opened) e o.kind

-- the piece goes on with the bytes held
longer : (text own more rest : List ℕ) (tokens : List Spanned) (start : ℕ) → Reaches 0 text tokens start (own ++ (more ++ rest)) → Reaches 0 text tokens start ((own ++ more) ++ rest)
longer text own more rest tokens start r = subst (Reaches 0 text tokens start) (sym (append_assoc own more rest)) r

further : (position start : ℕ) (own more : List ℕ) → position ≡ start + length own → position + length more ≡ start + length (own ++ more)
further position start own more e = omega (arith, e, length-append own more)

held_more : (held own character more : List ℕ) → character ≡ [] → held ≡ own ++ character → held ++ more ≡ (own ++ more) ++ character
held_more held own character more none e =
    ap (λ l. l ++ more) (e ∙ ap (λ l. own ++ l) none ∙ append-nil own) ∙ sym (append-nil (own ++ more)) ∙ ap (λ l. (own ++ more) ++ l) (sym none)

-- NAMES

pub name_held : (p : Progress) (text bs more : List ℕ) → p.unfinished ≡ Name → p.character ≡ [] → Each is_name_byte bs → Stands p text (bs ++ more) → Stands (with_held p bs) text more
name_held p text bs more u none each s =
    let o = opened_of p text (bs ++ more) none s in
    let k = kind_of p Name text (bs ++ more) u o in
    stands_of (with_held p bs) text more none (record {
      opened = o.opened ++ bs;
      reaches = longer text o.opened bs more p.whole p.start o.reaches;
      position = further p.position p.start o.opened bs o.position;
      kind = let new : HasKind Name (with_held p bs) (o.opened ++ bs) = (name_more_ascii o.opened bs k.0 each, held_more p.held o.opened p.character bs none k.1, k.2) in subst (λ x. HasKind x (with_held p bs) (o.opened ++ bs)) (sym u) new;
    })

pub name_closes : (p : Progress) (text rest : List ℕ) (t : Token) → p.unfinished ≡ Name → p.character ≡ [] → NoMoreName rest → IsNameToken p.held t → Stands p text rest → Stands (with_token p t) text rest
name_closes p text rest t u none stops is_token s =
    let o = opened_of p text rest none s in
    let k = kind_of p Name text rest u o in
    let held : p.held ≡ o.opened = k.1 ∙ ap (λ l. o.opened ++ l) none ∙ append-nil o.opened in
    with_token_stands p text rest o.opened t none k.2 o.reaches o.position (name_token_begins rest (subst (λ l. IsNameToken l t) held is_token) k.0 stops)

-- INTEGERS

some_more : (own more : List ℕ) → own ≢ [] → own ++ more ≢ []
some_more [] more some e = some refl
some_more (x ∷ own) more some e = let no : ⊥ = cc in no

pub integer_held : (p : Progress) (text bs more : List ℕ) (n : ℕ) → p.unfinished ≡ Integer → p.character ≡ [] → Each is_digit bs → n ≡ number_after p.number bs → n ≤ greatest → Stands p text (bs ++ more) → Stands (record (with_held p bs) { number = n }) text more
integer_held p text bs more n u none each is narrow s =
    let o = opened_of p text (bs ++ more) none s in
    let k = kind_of p Integer text (bs ++ more) u o in
    let q = record (with_held p bs) { number = n } in
    stands_of q text more none (record {
      opened = o.opened ++ bs;
      reaches = longer text o.opened bs more p.whole p.start o.reaches;
      position = further p.position p.start o.opened bs o.position;
      kind = let new : HasKind Integer q (o.opened ++ bs) = (some_more o.opened bs k.0, Each-append is_digit o.opened bs k.1 each, is ∙ ap (λ m. number_after m bs) k.2 ∙ sym (number_parts 0 o.opened bs), narrow, ap (λ l. l ++ bs) k.4, none, k.6) in subst (λ x. HasKind x q (o.opened ++ bs)) (sym u) new;
    })

pub integer_wide : (p : Progress) (text bs more : List ℕ) → p.unfinished ≡ Integer → p.character ≡ [] → Each is_digit bs → greatest < number_after p.number bs → Stands p text (bs ++ more) → IsRefused text (NumberTooWide p.start)
integer_wide p text bs more u none each wide s =
    let o = opened_of p text (bs ++ more) none s in
    let k = kind_of p Integer text (bs ++ more) u o in
    let all : number_after 0 (o.opened ++ bs) ≡ number_after p.number bs = number_parts 0 o.opened bs ∙ ap (λ m. number_after m bs) (sym k.2) in
    let w = wide_begins (o.opened ++ bs) more (some_more o.opened bs k.0) (Each-append is_digit o.opened bs k.1 each) (omega (arith, all, wide)) in
    (o.opened ++ (bs ++ more), w.0, w.1, (p.whole, o.reaches), w.2 ∙ append_assoc o.opened bs more, w.3)

pub integer_closes : (p : Progress) (text rest : List ℕ) (t : ℤ) → p.unfinished ≡ Integer → p.character ≡ [] → FrontFails is_digit rest → t ≡ pos p.number → Stands p text rest → Stands (with_token p (IntegerToken t)) text rest
integer_closes p text rest t u none stops is s =
    let o = opened_of p text rest none s in
    let k = kind_of p Integer text rest u o in
    let narrow : number_after 0 o.opened ≤ greatest = omega (arith, k.2, k.3) in
    let token : pos (number_after 0 o.opened) ≡ t = ap (λ m. pos m) (sym k.2) ∙ sym is in
    with_token_stands p text rest o.opened (IntegerToken t) none k.6 o.reaches o.position (subst (λ m. Begins (Whole (IntegerToken m)) o.opened rest) token (integer_begins o.opened rest (k.0, k.1, stops) narrow))

-- STRINGS

plain_of : (b : ℕ) → is_plain_ascii b ≡ true → is_plain b ≡ true
plain_of b h = grind (arith, nat_tests)

low_of : (b : ℕ) → is_plain_ascii b ≡ true → nat_lt b 128 ≡ true
low_of b h = grind (arith, nat_tests)

pub string_held : (p : Progress) (text bs more : List ℕ) → p.unfinished ≡ Str → p.character ≡ [] → IsUtf8 bs → Each is_plain bs → Stands p text (bs ++ more) → Stands (record (with_held p bs) { text = p.text ++ bs }) text more
string_held p text bs more u none utf8 each s =
    let o = opened_of p text (bs ++ more) none s in
    let k = kind_of p Str text (bs ++ more) u o in
    let q = record (with_held p bs) { text = p.text ++ bs } in
    stands_of q text more none (record {
      opened = o.opened ++ bs;
      reaches = longer text o.opened bs more p.whole p.start o.reaches;
      position = further p.position p.start o.opened bs o.position;
      kind = let new : HasKind Str q (o.opened ++ bs) = (k.0 ++ bs, ap (λ l. l ++ bs) k.1, IsUtf8-append k.0 bs k.2 utf8, quotes_append k.3 (quotes_plain bs each), held_more p.held o.opened p.character bs none k.4) in subst (λ x. HasKind x q (o.opened ++ bs)) (sym u) new;
    })

pub string_closes : (p : Progress) (text more : List ℕ) → p.unfinished ≡ Str → p.character ≡ [] → Stands p text (34 ∷ more) → Stands (with_token (record p { position = p.position + 1; text = [] }) (StrToken p.text)) text more
string_closes p text more u none s =
    let o = opened_of p text (34 ∷ more) none s in
    let k = kind_of p Str text (34 ∷ more) u o in
    let whole : o.opened ++ 34 ∷ [] ≡ 34 ∷ (k.0 ++ 34 ∷ []) = ap (λ l. l ++ 34 ∷ []) k.1 in
    with_token_stands (record p { position = p.position + 1; text = [] }) text more (o.opened ++ 34 ∷ []) (StrToken p.text) none refl (longer text o.opened (34 ∷ []) more p.whole p.start o.reaches) (further p.position p.start o.opened (34 ∷ []) o.position) (subst (λ l. Begins (Whole (StrToken p.text)) l more) (sym whole) (string_begins k.0 p.text more k.2 k.3))

pub string_escapes : (p : Progress) (text more : List ℕ) → p.unfinished ≡ Str → p.character ≡ [] → Stands p text (92 ∷ more) → Stands (record (with_held p (92 ∷ [])) { unfinished = Escape }) text more
string_escapes p text more u none s =
    let o = opened_of p text (92 ∷ more) none s in
    let k = kind_of p Str text (92 ∷ more) u o in
    let held : p.held ≡ o.opened = k.4 ∙ ap (λ l. o.opened ++ l) none ∙ append-nil o.opened in
    stands_of (record (with_held p (92 ∷ [])) { unfinished = Escape }) text more none (record {
      opened = o.opened ++ 92 ∷ [];
      reaches = longer text o.opened (92 ∷ []) more p.whole p.start o.reaches;
      position = further p.position p.start o.opened (92 ∷ []) o.position;
      kind = (k.0, ap (λ l. l ++ 92 ∷ []) k.1, k.2, k.3, ap (λ l. l ++ 92 ∷ []) held, none);
    })

-- the text of a string that has come so far
inside : (raw rest opened : List ℕ) → opened ≡ 34 ∷ raw → opened ++ rest ≡ 34 ∷ (raw ++ rest)
inside raw rest opened e = ap (λ l. l ++ rest) e

pub string_refused : (p : Progress) (text rest : List ℕ) → p.unfinished ≡ Str → p.character ≡ [] → NoEnd rest → Stands p text rest → IsRefused text (BadToken p.start)
string_refused p text rest u none bad s =
    let o = opened_of p text rest none s in
    let k = kind_of p Str text rest u o in
    refused_at text (34 ∷ (k.0 ++ rest)) p.whole p.start (subst (Reaches 0 text p.whole p.start) (inside k.0 rest o.opened k.1) o.reaches) (λ e. let no : ⊥ = cc in no) (no_string k.0 p.text rest k.3 k.2 bad)

escaped : (raw rest opened : List ℕ) → opened ≡ 34 ∷ (raw ++ 92 ∷ []) → opened ++ rest ≡ 34 ∷ (raw ++ 92 ∷ rest)
escaped raw rest opened e = ap (λ l. l ++ rest) e ∙ ap (λ l. 34 ∷ l) (append_assoc raw (92 ∷ []) rest)

pub escape_refused : (p : Progress) (text rest : List ℕ) → p.unfinished ≡ Escape → p.character ≡ [] → FrontFails (λ b. b == 34 || b == 92) rest → Stands p text rest → IsRefused text (BadToken p.start)
escape_refused p text rest u none bad s =
    let o = opened_of p text rest none s in
    let k = kind_of p Escape text rest u o in
    refused_at text (34 ∷ (k.0 ++ 92 ∷ rest)) p.whole p.start (subst (Reaches 0 text p.whole p.start) (escaped k.0 rest o.opened k.1) o.reaches) (λ e. let no : ⊥ = cc in no) (no_string k.0 p.text (92 ∷ rest) k.3 k.2 (no_end_escape rest bad))

-- the byte of a pair behind a backslash
one_quoted : (b : ℕ) → (b == 34 || b == 92) ≡ true → Quotes (92 ∷ b ∷ []) (b ∷ [])
one_quoted b h = from (b == 34) refl (b == 92) refl h
  where
    from : (v : Bool) → (b == 34) ≡ v → (w : Bool) → (b == 92) ≡ w → (v || w) ≡ true → Quotes (92 ∷ b ∷ []) (b ∷ [])
    from true e w f h = let same : 34 ≡ b = grind (arith, nat_tests) in subst (λ x. Quotes (92 ∷ x ∷ []) (x ∷ [])) same (quote nothing)
    from false e true f h = let same : 92 ≡ b = grind (arith, nat_tests) in subst (λ x. Quotes (92 ∷ x ∷ []) (x ∷ [])) same (backslash nothing)
    from false e false f h = absurd (both false h refl)

ascii_pair : (b : ℕ) → (b == 34 || b == 92) ≡ true → (i : ℕ) → get_or (92 ∷ b ∷ []) i 0 < 128
ascii_pair b h zero = omega arith
ascii_pair b h (suc zero) = grind (arith, nat_tests)
ascii_pair b h (suc (suc i)) = omega arith

pub escape_held : (p : Progress) (text more : List ℕ) (b : ℕ) → p.unfinished ≡ Escape → p.character ≡ [] → (b == 34 || b == 92) ≡ true → Stands p text (b ∷ more) → Stands (record (with_held p (b ∷ [])) { unfinished = Str; text = p.text ++ b ∷ [] }) text more
escape_held p text more b u none pair s =
    let o = opened_of p text (b ∷ more) none s in
    let k = kind_of p Escape text (b ∷ more) u o in
    let raw = k.0 ++ 92 ∷ b ∷ [] in
    let opened : o.opened ++ b ∷ [] ≡ 34 ∷ raw = escaped k.0 (b ∷ []) o.opened k.1 in
    let held : p.held ++ b ∷ [] ≡ (o.opened ++ b ∷ []) ++ p.character = ap (λ l. l ++ b ∷ []) k.4 ∙ sym (append-nil (o.opened ++ b ∷ [])) ∙ ap (λ l. (o.opened ++ b ∷ []) ++ l) (sym none) in
    stands_of (record (with_held p (b ∷ [])) { unfinished = Str; text = p.text ++ b ∷ [] }) text more none (record {
      opened = o.opened ++ b ∷ [];
      reaches = longer text o.opened (b ∷ []) more p.whole p.start o.reaches;
      position = further p.position p.start o.opened (b ∷ []) o.position;
      kind = (raw, opened, IsUtf8-append k.0 (92 ∷ b ∷ []) k.2 (IsUtf8-from_ascii (92 ∷ b ∷ []) (ascii_pair b pair)), quotes_append k.3 (one_quoted b pair), held);
    })

-- MARKS

pub equals_closes : (p : Progress) (text rest : List ℕ) → p.unfinished ≡ Equals → p.character ≡ [] → FrontFails (λ b. b == 61) rest → Stands p text rest → Stands (with_token p (Mark EqualsMark)) text rest
equals_closes p text rest u none stops s =
    let o = opened_of p text rest none s in
    let k = kind_of p Equals text rest u o in
    with_token_stands p text rest o.opened (Mark EqualsMark) none k.3 o.reaches o.position (subst (λ l. Begins (Whole (Mark EqualsMark)) l rest) (sym k.0) (mark_begins EqualsMark rest stops))

pub minus_closes : (p : Progress) (text rest : List ℕ) → p.unfinished ≡ Minus → p.character ≡ [] → FrontFails (λ b. b == 62) rest → Stands p text rest → Stands (with_token p (Mark MinusMark)) text rest
minus_closes p text rest u none stops s =
    let o = opened_of p text rest none s in
    let k = kind_of p Minus text rest u o in
    with_token_stands p text rest o.opened (Mark MinusMark) none k.3 o.reaches o.position (subst (λ l. Begins (Whole (Mark MinusMark)) l rest) (sym k.0) (mark_begins MinusMark rest stops))

pub equals_pairs : (p : Progress) (text more : List ℕ) → p.unfinished ≡ Equals → p.character ≡ [] → Stands p text (61 ∷ more) → Stands (with_token (record p { position = p.position + 1 }) (Mark DoubleEquals)) text more
equals_pairs p text more u none s =
    let o = opened_of p text (61 ∷ more) none s in
    let k = kind_of p Equals text (61 ∷ more) u o in
    with_token_stands (record p { position = p.position + 1 }) text more (o.opened ++ 61 ∷ []) (Mark DoubleEquals) none k.3 (longer text o.opened (61 ∷ []) more p.whole p.start o.reaches) (further p.position p.start o.opened (61 ∷ []) o.position) (subst (λ l. Begins (Whole (Mark DoubleEquals)) (l ++ 61 ∷ []) more) (sym k.0) (mark_begins DoubleEquals more tt))

pub minus_pairs : (p : Progress) (text more : List ℕ) → p.unfinished ≡ Minus → p.character ≡ [] → Stands p text (62 ∷ more) → Stands (with_token (record p { position = p.position + 1 }) (Mark Arrow)) text more
minus_pairs p text more u none s =
    let o = opened_of p text (62 ∷ more) none s in
    let k = kind_of p Minus text (62 ∷ more) u o in
    with_token_stands (record p { position = p.position + 1 }) text more (o.opened ++ 62 ∷ []) (Mark Arrow) none k.3 (longer text o.opened (62 ∷ []) more p.whole p.start o.reaches) (further p.position p.start o.opened (62 ∷ []) o.position) (subst (λ l. Begins (Whole (Mark Arrow)) (l ++ 62 ∷ []) more) (sym k.0) (mark_begins Arrow more tt))

-- COMMENTS

pub slash_refused : (p : Progress) (text rest : List ℕ) → p.unfinished ≡ Slash → p.character ≡ [] → FrontFails (λ b. b == 47) rest → Stands p text rest → IsRefused text (BadToken p.start)
slash_refused p text rest u none bad s =
    let o = opened_of p text rest none s in
    let k = kind_of p Slash text rest u o in
    refused_at text (47 ∷ rest) p.whole p.start (subst (λ l. Reaches 0 text p.whole p.start (l ++ rest)) k.0 o.reaches) (λ e. let no : ⊥ = cc in no) (no_comment rest bad)

pub slash_opens : (p : Progress) (text more : List ℕ) → p.unfinished ≡ Slash → p.character ≡ [] → Stands p text (47 ∷ more) → Stands (record p { position = p.position + 1; unfinished = Comment; held = [] }) text more
slash_opens p text more u none s =
    let o = opened_of p text (47 ∷ more) none s in
    let k = kind_of p Slash text (47 ∷ more) u o in
    stands_of (record p { position = p.position + 1; unfinished = Comment; held = [] }) text more none (record {
      opened = o.opened ++ 47 ∷ [];
      reaches = longer text o.opened (47 ∷ []) more p.whole p.start o.reaches;
      position = further p.position p.start o.opened (47 ∷ []) o.position;
      kind = ([], ap (λ l. l ++ 47 ∷ []) k.0, ([], (refl, refl)), tt, sym none, k.3);
    })

pub comment_passes : (p : Progress) (text bs more : List ℕ) (n : ℕ) → p.unfinished ≡ Comment → p.character ≡ [] → n ≡ length bs → IsUtf8 bs → Each is_in_line bs → Stands p text (bs ++ more) → Stands (record p { position = p.position + n }) text more
comment_passes p text bs more n u none len utf8 each s =
    let o = opened_of p text (bs ++ more) none s in
    let k = kind_of p Comment text (bs ++ more) u o in
    let q = record p { position = p.position + n } in
    stands_of q text more none (record {
      opened = o.opened ++ bs;
      reaches = longer text o.opened bs more p.whole p.start o.reaches;
      position = ap (λ m. p.position + m) len ∙ further p.position p.start o.opened bs o.position;
      kind = let new : HasKind Comment q (o.opened ++ bs) = (k.0 ++ bs, ap (λ l. l ++ bs) k.1, IsUtf8-append k.0 bs k.2 utf8, Each-append is_in_line k.0 bs k.3 each, k.4, k.5) in subst (λ x. HasKind x q (o.opened ++ bs)) (sym u) new;
    })

pub comment_closes : (p : Progress) (text rest : List ℕ) → p.unfinished ≡ Comment → p.character ≡ [] → FrontFails is_in_line rest → Stands p text rest → Stands (record p { unfinished = Nothing; start = p.position }) text rest
comment_closes p text rest u none stops s =
    let o = opened_of p text rest none s in
    let k = kind_of p Comment text rest u o in
    let over = over_more o.reaches (inr refl) (subst (λ l. Begins CommentLexeme l rest) (sym k.1) (comment_begins k.0 rest k.2 k.3 stops)) refl in
    stands_free (record p { unfinished = Nothing; start = p.position }) text rest refl none (record {
      reaches = subst (λ n. Reaches 0 text p.whole n rest) (sym o.position) over;
      start = refl;
      held = k.4 ∙ none;
      no_text = k.5;
    })
