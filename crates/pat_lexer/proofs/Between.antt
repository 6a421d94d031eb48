-- What reading does where no piece is unfinished.
use Rattle.std.proofs.Common.{◌≡◌, ◌≢◌, ◌+◌, ◌<◌, inl, ℕ, false, List, [], ◌∷◌, ◌++◌, length, refl, ap, sym, subst, ◌∙◌, arith}
use Rattle.std.proofs.lemmas.Str.{char_from_byte}
use Rattle.unicode_ident.proofs.IdentLemmas.{is_xid_continue-ascii}
use Rattle.pat_lexer_spec.specs.Marks.{Mark as MarkKind, mark_bytes}
use Rattle.pat_lexer_spec.specs.Tokens.{Token, Spanned, Mark}
use Rattle.pat_lexer_spec.specs.Lexemes.{Whole, Begins, NothingFits, NoLonger}
use Rattle.pat_lexer_spec.specs.Divisions.{Reaches, IsRefused, BadToken}
use Rattle.pat_lexer_spec.specs.Characters.{is_blank, Each, IsNameText, continues_name}
use Rattle.pat_lexer_laws.proofs.Texts.{encode_some}
use Rattle.pat_lexer_laws.proofs.Reaching.{over_more}
use Rattle.pat_lexer_laws.proofs.Beginnings.{blank_begins}
use Rattle.pat_lexer_laws.proofs.MarkBeginnings.{mark_begins}
use Rattle.pat_lexer_laws.proofs.NameBeginnings.{name_begins, word_begins, NoMoreName}
use Rattle.pat_lexer.specs.declared.unfinished.Unfinished.{Unfinished}
use Rattle.pat_lexer.specs.declared.unfinished.Unfinished.TheVariants.{Nothing}
use Rattle.pat_lexer.specs.fronts.Bytes.{is_name_byte}
use Rattle.pat_lexer.specs.Progress.{Progress, HasKind, Stands}
use Rattle.pat_lexer.specs.Changes.{with_token, with_piece}
use Rattle.pat_lexer.specs.fronts.Spelled.{IsNameToken, name, word}
use Rattle.pat_lexer.proofs.Standing.{free_of, stands_free, stands_of, with_token_stands}

-- a place is refused where nothing fits
pub refused_at : (text rest : List ℕ) (tokens : List Spanned) (o : ℕ) → Reaches 0 text tokens o rest → rest ≢ [] → NothingFits rest → IsRefused text (BadToken o)
refused_at text rest tokens o r some none = (rest, (tokens, r), some, none)

pub free_refused : (p : Progress) (text rest : List ℕ) → p.unfinished ≡ Nothing → p.character ≡ [] → rest ≢ [] → NothingFits rest → Stands p text rest → IsRefused text (BadToken p.position)
free_refused p text rest u none some bad s = refused_at text rest p.whole p.position (free_of p text rest u none s).reaches some bad

-- nothing goes on with a name where an ASCII byte stands that doesn't
pub no_more_ascii : (b : ℕ) (more : List ℕ) → b < 128 → is_name_byte b ≡ false → NoMoreName (b ∷ more)
no_more_ascii b more low stops c after s e =
    let same : c ≡ b = char_from_byte (b ∷ more) after c e low (omega arith) in
    subst (λ x. continues_name x ≡ false) (sym same) (is_xid_continue-ascii b low ∙ stops)

pub no_more_nil : NoMoreName []
no_more_nil c after s e = absurd (encode_some c after (sym e))

pub name_token_begins : {own : List ℕ} {t : Token} (rest : List ℕ) → IsNameToken own t → IsNameText own → NoMoreName rest → Begins (Whole t) own rest
name_token_begins {own} rest (name none) text n = name_begins own rest text none n
name_token_begins {own} rest (word {w} same) text n = word_begins w own rest same n

reaches_blanks : (text run more : List ℕ) (tokens : List Spanned) (at : ℕ) → Each is_blank run → Reaches 0 text tokens at (run ++ more) → Reaches 0 text tokens (at + length run) more
reaches_blanks text [] more tokens at each r = subst (λ n. Reaches 0 text tokens n more) (let e : at ≡ at + 0 = omega arith in e) r
reaches_blanks text (b ∷ run) more tokens at each r =
    let one = over_more r (inl refl) (blank_begins b (run ++ more) each.0) refl in
    subst (λ n. Reaches 0 text tokens n more) (let e : at + 1 + length run ≡ at + length (b ∷ run) = omega arith in e) (reaches_blanks text run more tokens (at + 1) each.1 one)

pub blanks_stand : (p : Progress) (text run more : List ℕ) (n : ℕ) → p.unfinished ≡ Nothing → p.character ≡ [] → Each is_blank run → n ≡ length run → Stands p text (run ++ more) → Stands (record p { position = p.position + n; start = p.position + n }) text more
blanks_stand p text run more n u none each len s =
    let f = free_of p text (run ++ more) u none s in
    stands_free (record p { position = p.position + n; start = p.position + n }) text more u none (record {
      reaches = subst (λ k. Reaches 0 text p.whole (p.position + k) more) (sym len) (reaches_blanks text run more p.whole p.position each f.reaches);
      start = refl;
      held = f.held;
      no_text = f.no_text;
    })

-- a whole token is read at once
pub token_stands : (p : Progress) (text own more : List ℕ) (t : Token) (n : ℕ) → p.unfinished ≡ Nothing → p.character ≡ [] → n ≡ length own → Begins (Whole t) own more → Stands p text (own ++ more) → Stands (with_token (record p { start = p.position; position = p.position + n }) t) text more
token_stands p text own more t n u none len b s =
    let f = free_of p text (own ++ more) u none s in
    with_token_stands (record p { start = p.position; position = p.position + n }) text more own t none f.no_text f.reaches (ap (λ k. p.position + k) len) b

-- a token of the place's own start
pub mark_stands : (p : Progress) (text more : List ℕ) (m : MarkKind) → p.unfinished ≡ Nothing → p.character ≡ [] → NoLonger m more → Stands p text (mark_bytes m ++ more) → Stands (with_token (record p { position = p.position + length (mark_bytes m) }) (Mark m)) text more
mark_stands p text more m u none n s =
    let f = free_of p text (mark_bytes m ++ more) u none s in
    with_token_stands (record p { position = p.position + length (mark_bytes m) }) text more (mark_bytes m) (Mark m) none f.no_text (subst (λ k. Reaches 0 text p.whole k (mark_bytes m ++ more)) (sym f.start) f.reaches) (omega (arith, f.start)) (mark_begins m more n)

-- a piece is begun
pub piece_stands : (p : Progress) (text own more : List ℕ) (u : Unfinished) → p.unfinished ≡ Nothing → p.character ≡ [] → (p.held ≡ [] → p.text ≡ [] → HasKind u (with_piece p u own) own) → Stands p text (own ++ more) → Stands (with_piece p u own) text more
piece_stands p text own more u free none kind s =
    let f = free_of p text (own ++ more) free none s in
    stands_of (with_piece p u own) text more none (record { opened = own; reaches = f.reaches; position = refl; kind = kind f.held f.no_text })

-- the value of an integer is of no matter here
pub renumbered : (p : Progress) (text rest : List ℕ) (n : ℕ) → p.unfinished ≡ Nothing → p.character ≡ [] → Stands p text rest → Stands (record p { number = n }) text rest
renumbered p text rest n u none s =
    let f = free_of p text rest u none s in
    stands_free (record p { number = n }) text rest u none (record { reaches = f.reaches; start = f.start; held = f.held; no_text = f.no_text })
