-- Places that are reached: one way leads through a text.
use Rattle.std.proofs.Common.{◌≡◌, ◌≢◌, ◌+◌, ◌⊎◌, inl, inr, ℕ, List, [], ◌∷◌, ◌++◌, length, refl, ap, sym, subst, ◌∙◌, arith}
use Rattle.pat_lexer_spec.specs.Tokens.{Token, Spanned, Name, Integer, Str, Word, Mark}
use Rattle.pat_lexer_spec.specs.Lexemes.{Lexeme, Blank, Comment, Whole, TooWide, Fits, Begins, NothingFits}
use Rattle.pat_lexer_spec.specs.Divisions.{Reaches, here, over, token, Divides, Refusal, BadToken, NumberTooWide, IsRefused}
use Rattle.pat_lexer_spec.specs.Characters.{is_digit, number_after}
use Rattle.pat_lexer_laws.proofs.Runs.{split_once}
use Rattle.pat_lexer_laws.proofs.Unique.{one_front}
use Rattle.pat_lexer_laws.proofs.Classes.{lexeme_front, same_class, class_of, Digits}

-- a place where no piece begins: the end, a bad place, or an integer too wide
abbrev pub IsLast : List ℕ → Type 0
IsLast rest = (lexeme : Lexeme) (own after : List ℕ) → (lexeme ≢ TooWide) → Begins lexeme own after → own ++ after ≡ rest → ⊥

-- two last places that are reached are one
pub record One (to to' : ℕ) (tokens tokens' : List Spanned) (rest rest' : List ℕ) : Type 0 where
  pub to_is : to ≡ to'
  pub tokens_is : tokens ≡ tokens'
  pub rest_is : rest ≡ rest'

over_whole : (lexeme : Lexeme) (t : Token) → (lexeme ≡ Blank) ⊎ (lexeme ≡ Comment) → lexeme ≡ Whole t → ⊥
over_whole lexeme t (inl e) f = let no : Blank ≡ Whole t = sym e ∙ f in cc
over_whole lexeme t (inr e) f = let no : Comment ≡ Whole t = sym e ∙ f in cc

over_narrow : (lexeme : Lexeme) → (lexeme ≡ Blank) ⊎ (lexeme ≡ Comment) → lexeme ≢ TooWide
over_narrow lexeme (inl e) f = let no : Blank ≡ TooWide = sym e ∙ f in cc
over_narrow lexeme (inr e) f = let no : Comment ≡ TooWide = sym e ∙ f in cc

whole_narrow : (t : Token) → Whole t ≢ TooWide
whole_narrow t f = cc

whole_token : (t u : Token) → Whole t ≡ Whole u → t ≡ u
whole_token t u e = cc

-- the same way on from the same place
moved : (at to : ℕ) (own own' after after' rest : List ℕ) (tokens : List Spanned) → own ≡ own' → after ≡ after' → Reaches (at + length own') after' tokens to rest → Reaches (at + length own) after tokens to rest
moved at to own own' after after' rest tokens e f r =
    subst (λ o. Reaches (at + length o) after tokens to rest) (sym e) (subst (λ a. Reaches (at + length own') a tokens to rest) (sym f) r)

pub one_way : {at to to' : ℕ} {text rest rest' : List ℕ} {tokens tokens' : List Spanned} → Reaches at text tokens to rest → Reaches at text tokens' to' rest' → IsLast rest → IsLast rest' → One to to' tokens tokens' rest rest'
one_way here here l l' = record { to_is = refl; tokens_is = refl; rest_is = refl }
one_way here (over o b e r) l l' = absurd (l _ _ _ (over_narrow _ o) b e)
one_way here (token b e r) l l' = absurd (l _ _ _ (whole_narrow _) b e)
one_way (over o b e r) here l l' = absurd (l' _ _ _ (over_narrow _ o) b e)
one_way (token b e r) here l l' = absurd (l' _ _ _ (whole_narrow _) b e)
one_way (over o b e r) (token b' e' r') l l' =
    let s = one_front _ _ _ _ _ _ b b' (e ∙ sym e') in absurd (over_whole _ _ o s.lexeme)
one_way (token b e r) (over o b' e' r') l l' =
    let s = one_front _ _ _ _ _ _ b b' (e ∙ sym e') in absurd (over_whole _ _ o (sym s.lexeme))
one_way (over o b e r) (over o' b' e' r') l l' =
    let s = one_front _ _ _ _ _ _ b b' (e ∙ sym e') in
    one_way r (moved _ _ _ _ _ _ _ _ s.own_is s.rest_is r') l l'
one_way (token {own = own} {t = t} b e r) (token {own = own'} {t = t'} b' e' r') l l' =
    let s = one_front _ _ _ _ _ _ b b' (e ∙ sym e') in
    let more = one_way r (moved _ _ _ _ _ _ _ _ s.own_is s.rest_is r') l l' in
    let same : t ≡ t' = whole_token t t' s.lexeme in
    record {
      to_is = more.to_is;
      tokens_is = rw (same, s.own_is, more.tokens_is) refl;
      rest_is = more.rest_is;
    }

-- at the end no piece begins
pub end_last : IsLast []
end_last lexeme own after narrow b e =
    let f = lexeme_front lexeme own after b.fits in
    let no : f.front ∷ (f.tail ++ after) ≡ [] = ap (λ l. l ++ after) (sym f.is) ∙ e in
    cc

-- where nothing fits no piece begins
pub bad_last : (rest : List ℕ) → NothingFits rest → IsLast rest
bad_last rest none lexeme own after narrow b e = none lexeme own after b.fits e

-- no other lexeme fits where an integer is too wide
pub wide_last : (own after rest : List ℕ) → Fits TooWide own after → own ++ after ≡ rest → IsLast rest
wide_last own after rest f e lexeme own' after' narrow b e' = from lexeme narrow b.fits (same_class (class_of lexeme) Digits own' after' own after (lexeme_front lexeme own' after' b.fits) (lexeme_front TooWide own after f) (e' ∙ sym e))
  where
    from : (lexeme : Lexeme) → (lexeme ≢ TooWide) → Fits lexeme own' after' → class_of lexeme ≡ Digits → ⊥
    from Blank n g k = cc
    from Comment n g k = cc
    from TooWide n g k = n refl
    from (Whole (Name x)) n g k = cc
    from (Whole (Str x)) n g k = cc
    from (Whole (Word x)) n g k = cc
    from (Whole (Mark x)) n g k = cc
    from (Whole (Integer m)) n g k =
        let parts = split_once is_digit own' after' own after g.0.1 g.0.2 f.0.1 f.0.2 (e' ∙ sym e) in
        let same : number_after 0 own' ≡ number_after 0 own = ap (number_after 0) parts.0 in
        omega (arith, same, g.1, f.1)

some_front : (own after : List ℕ) → own ≢ [] → own ++ after ≡ [] → ⊥
some_front [] after some e = some refl
some_front (b ∷ bs) after some e = cc

-- a text divides in at most one way, or is refused in at most one way
pub one_division : (text : List ℕ) (tokens others : List Spanned) → Divides text tokens → Divides text others → tokens ≡ others
one_division text tokens others d d' = (one_way d.1 d'.1 end_last end_last).tokens_is

pub one_refusal : (text : List ℕ) (refusal other : Refusal) → IsRefused text refusal → IsRefused text other → refusal ≡ other
one_refusal text (BadToken o) (BadToken o') r r' =
    ap BadToken (one_way r.1.1 r'.1.1 (bad_last r.0 r.3) (bad_last r'.0 r'.3)).to_is
one_refusal text (BadToken o) (NumberTooWide o') r r' =
    let one = one_way r.1.1 r'.3.1 (bad_last r.0 r.3) (wide_last r'.1 r'.2 r'.0 r'.5 r'.4) in
    absurd (r.3 TooWide r'.1 r'.2 r'.5 (r'.4 ∙ sym one.rest_is))
one_refusal text (NumberTooWide o) (BadToken o') r r' =
    let one = one_way r.3.1 r'.1.1 (wide_last r.1 r.2 r.0 r.5 r.4) (bad_last r'.0 r'.3) in
    absurd (r'.3 TooWide r.1 r.2 r.5 (r.4 ∙ one.rest_is))
one_refusal text (NumberTooWide o) (NumberTooWide o') r r' =
    ap NumberTooWide (one_way r.3.1 r'.3.1 (wide_last r.1 r.2 r.0 r.5 r.4) (wide_last r'.1 r'.2 r'.0 r'.5 r'.4)).to_is

pub not_both : (text : List ℕ) (tokens : List Spanned) (refusal : Refusal) → Divides text tokens → IsRefused text refusal → ⊥
not_both text tokens (BadToken o) d r = r.2 (sym (one_way d.1 r.1.1 end_last (bad_last r.0 r.3)).rest_is)
not_both text tokens (NumberTooWide o) d r =
    let one = one_way d.1 r.3.1 end_last (wide_last r.1 r.2 r.0 r.5 r.4) in
    some_front r.1 r.2 r.5.0.0 (r.4 ∙ sym one.rest_is)

-- one piece more
pub over_more : {at to : ℕ} {text rest own after : List ℕ} {lexeme : Lexeme} {tokens : List Spanned} → Reaches at text tokens to rest → (lexeme ≡ Blank) ⊎ (lexeme ≡ Comment) → Begins lexeme own after → own ++ after ≡ rest → Reaches at text tokens (to + length own) after
over_more here o b e = over o b e here
over_more (over p c f r) o b e = over p c f (over_more r o b e)
over_more (token c f r) o b e = token c f (over_more r o b e)

pub token_more : {at to : ℕ} {text rest own after : List ℕ} {t : Token} {tokens : List Spanned} → Reaches at text tokens to rest → Begins (Whole t) own after → own ++ after ≡ rest → Reaches at text (tokens ++ record { token = t; from = to; to = to + length own } ∷ []) (to + length own) after
token_more here b e = token b e here
token_more (over p c f r) b e = over p c f (token_more r b e)
token_more (token c f r) b e = token c f (token_more r b e)
