-- One lexeme at most begins a text.
use Rattle.std.proofs.Common.{◌≡◌, ℕ, List, [], ◌∷◌, ◌++◌, length, refl, ap, sym, subst, ◌∙◌, arith}
use Rattle.std.proofs.lemmas.List.{append_cancel_right}
use Rattle.pat_lexer_spec.specs.Tokens.{Name, Integer, Str, Word, Mark}
use Rattle.pat_lexer_spec.specs.Characters.{is_plain, Quotes, nothing, plain, quote, backslash}
use Rattle.pat_lexer_spec.specs.Lexemes.{Lexeme, Blank, Comment, Whole, TooWide, Fits, Begins}
use Rattle.pat_lexer_laws.proofs.Runs.{both}
use Rattle.pat_lexer_laws.proofs.Spellings.{one_word, one_mark}
use Rattle.pat_lexer_laws.proofs.Classes.{lexeme_front, same_class, class_of}

-- what stands between quotes stands for one text
pub one_quoted : {raw text other : List ℕ} → Quotes raw text → Quotes raw other → text ≡ other
one_quoted nothing nothing = refl
one_quoted (plain {b} p q) (plain p' q') = ap (λ l. b ∷ l) (one_quoted q q')
one_quoted (plain p q) (quote q') = absurd (both (is_plain 92) p refl)
one_quoted (plain p q) (backslash q') = absurd (both (is_plain 92) p refl)
one_quoted (quote q) (plain p q') = absurd (both (is_plain 92) p refl)
one_quoted (backslash q) (plain p q') = absurd (both (is_plain 92) p refl)
one_quoted (quote q) (quote q') = ap (λ l. 34 ∷ l) (one_quoted q q')
one_quoted (backslash q) (backslash q') = ap (λ l. 92 ∷ l) (one_quoted q q')

-- bytes fit as one lexeme
same_lexeme : (a b : Lexeme) (own rest : List ℕ) → Fits a own rest → Fits b own rest → class_of a ≡ class_of b → a ≡ b
same_lexeme Blank Blank own rest f g k = refl
same_lexeme Comment Comment own rest f g k = refl
same_lexeme TooWide TooWide own rest f g k = refl
same_lexeme TooWide (Whole (Integer n)) own rest f g k = absurd (omega (arith, f.1, g.1))
same_lexeme (Whole (Integer n)) TooWide own rest f g k = absurd (omega (arith, f.1, g.1))
same_lexeme (Whole (Integer n)) (Whole (Integer m)) own rest f g k = ap (λ x. Whole (Integer x)) (f.2 ∙ sym g.2)
same_lexeme (Whole (Name x)) (Whole (Name y)) own rest f g k = ap (λ l. Whole (Name l)) (f.0 ∙ sym g.0)
same_lexeme (Whole (Name x)) (Whole (Word w)) own rest f g k = absurd (f.2 w g)
same_lexeme (Whole (Word w)) (Whole (Name x)) own rest f g k = absurd (g.2 w f)
same_lexeme (Whole (Word v)) (Whole (Word w)) own rest f g k = ap (λ x. Whole (Word x)) (one_word v w (sym f ∙ g))
same_lexeme (Whole (Mark v)) (Whole (Mark w)) own rest f g k = ap (λ x. Whole (Mark x)) (one_mark v w (sym f ∙ g))
same_lexeme (Whole (Str x)) (Whole (Str y)) own rest f g k =
    let longer : 34 ∷ (f.0 ++ 34 ∷ []) ≡ 34 ∷ (g.0 ++ 34 ∷ []) = sym f.1 ∙ g.1 in
    let bodies : f.0 ++ 34 ∷ [] ≡ g.0 ++ 34 ∷ [] = cc in
    let raws : f.0 ≡ g.0 = append_cancel_right f.0 g.0 (34 ∷ []) bodies in
    ap (λ l. Whole (Str l)) (one_quoted f.3 (subst (λ l. Quotes l y) (sym raws) g.3))
same_lexeme Blank Comment own rest f g k = absurd (let no : ⊥ = cc in no)
same_lexeme Blank TooWide own rest f g k = absurd (let no : ⊥ = cc in no)
same_lexeme Blank (Whole (Name y)) own rest f g k = absurd (let no : ⊥ = cc in no)
same_lexeme Blank (Whole (Integer y)) own rest f g k = absurd (let no : ⊥ = cc in no)
same_lexeme Blank (Whole (Str y)) own rest f g k = absurd (let no : ⊥ = cc in no)
same_lexeme Blank (Whole (Word y)) own rest f g k = absurd (let no : ⊥ = cc in no)
same_lexeme Blank (Whole (Mark y)) own rest f g k = absurd (let no : ⊥ = cc in no)
same_lexeme Comment Blank own rest f g k = absurd (let no : ⊥ = cc in no)
same_lexeme Comment TooWide own rest f g k = absurd (let no : ⊥ = cc in no)
same_lexeme Comment (Whole (Name y)) own rest f g k = absurd (let no : ⊥ = cc in no)
same_lexeme Comment (Whole (Integer y)) own rest f g k = absurd (let no : ⊥ = cc in no)
same_lexeme Comment (Whole (Str y)) own rest f g k = absurd (let no : ⊥ = cc in no)
same_lexeme Comment (Whole (Word y)) own rest f g k = absurd (let no : ⊥ = cc in no)
same_lexeme Comment (Whole (Mark y)) own rest f g k = absurd (let no : ⊥ = cc in no)
same_lexeme TooWide Blank own rest f g k = absurd (let no : ⊥ = cc in no)
same_lexeme TooWide Comment own rest f g k = absurd (let no : ⊥ = cc in no)
same_lexeme TooWide (Whole (Name y)) own rest f g k = absurd (let no : ⊥ = cc in no)
same_lexeme TooWide (Whole (Str y)) own rest f g k = absurd (let no : ⊥ = cc in no)
same_lexeme TooWide (Whole (Word y)) own rest f g k = absurd (let no : ⊥ = cc in no)
same_lexeme TooWide (Whole (Mark y)) own rest f g k = absurd (let no : ⊥ = cc in no)
same_lexeme (Whole (Name x)) Blank own rest f g k = absurd (let no : ⊥ = cc in no)
same_lexeme (Whole (Name x)) Comment own rest f g k = absurd (let no : ⊥ = cc in no)
same_lexeme (Whole (Name x)) TooWide own rest f g k = absurd (let no : ⊥ = cc in no)
same_lexeme (Whole (Name x)) (Whole (Integer y)) own rest f g k = absurd (let no : ⊥ = cc in no)
same_lexeme (Whole (Name x)) (Whole (Str y)) own rest f g k = absurd (let no : ⊥ = cc in no)
same_lexeme (Whole (Name x)) (Whole (Mark y)) own rest f g k = absurd (let no : ⊥ = cc in no)
same_lexeme (Whole (Integer x)) Blank own rest f g k = absurd (let no : ⊥ = cc in no)
same_lexeme (Whole (Integer x)) Comment own rest f g k = absurd (let no : ⊥ = cc in no)
same_lexeme (Whole (Integer x)) (Whole (Name y)) own rest f g k = absurd (let no : ⊥ = cc in no)
same_lexeme (Whole (Integer x)) (Whole (Str y)) own rest f g k = absurd (let no : ⊥ = cc in no)
same_lexeme (Whole (Integer x)) (Whole (Word y)) own rest f g k = absurd (let no : ⊥ = cc in no)
same_lexeme (Whole (Integer x)) (Whole (Mark y)) own rest f g k = absurd (let no : ⊥ = cc in no)
same_lexeme (Whole (Str x)) Blank own rest f g k = absurd (let no : ⊥ = cc in no)
same_lexeme (Whole (Str x)) Comment own rest f g k = absurd (let no : ⊥ = cc in no)
same_lexeme (Whole (Str x)) TooWide own rest f g k = absurd (let no : ⊥ = cc in no)
same_lexeme (Whole (Str x)) (Whole (Name y)) own rest f g k = absurd (let no : ⊥ = cc in no)
same_lexeme (Whole (Str x)) (Whole (Integer y)) own rest f g k = absurd (let no : ⊥ = cc in no)
same_lexeme (Whole (Str x)) (Whole (Word y)) own rest f g k = absurd (let no : ⊥ = cc in no)
same_lexeme (Whole (Str x)) (Whole (Mark y)) own rest f g k = absurd (let no : ⊥ = cc in no)
same_lexeme (Whole (Word x)) Blank own rest f g k = absurd (let no : ⊥ = cc in no)
same_lexeme (Whole (Word x)) Comment own rest f g k = absurd (let no : ⊥ = cc in no)
same_lexeme (Whole (Word x)) TooWide own rest f g k = absurd (let no : ⊥ = cc in no)
same_lexeme (Whole (Word x)) (Whole (Integer y)) own rest f g k = absurd (let no : ⊥ = cc in no)
same_lexeme (Whole (Word x)) (Whole (Str y)) own rest f g k = absurd (let no : ⊥ = cc in no)
same_lexeme (Whole (Word x)) (Whole (Mark y)) own rest f g k = absurd (let no : ⊥ = cc in no)
same_lexeme (Whole (Mark x)) Blank own rest f g k = absurd (let no : ⊥ = cc in no)
same_lexeme (Whole (Mark x)) Comment own rest f g k = absurd (let no : ⊥ = cc in no)
same_lexeme (Whole (Mark x)) TooWide own rest f g k = absurd (let no : ⊥ = cc in no)
same_lexeme (Whole (Mark x)) (Whole (Name y)) own rest f g k = absurd (let no : ⊥ = cc in no)
same_lexeme (Whole (Mark x)) (Whole (Integer y)) own rest f g k = absurd (let no : ⊥ = cc in no)
same_lexeme (Whole (Mark x)) (Whole (Str y)) own rest f g k = absurd (let no : ⊥ = cc in no)
same_lexeme (Whole (Mark x)) (Whole (Word y)) own rest f g k = absurd (let no : ⊥ = cc in no)

-- one text's fronts of one length are the same
pub same_fronts : (xs ys xs' ys' : List ℕ) → xs ++ ys ≡ xs' ++ ys' → length xs ≡ length xs' → (xs ≡ xs') × (ys ≡ ys')
same_fronts [] ys [] ys' e l = (refl, e)
same_fronts [] ys (x' ∷ xs') ys' e l = absurd (omega arith)
same_fronts (x ∷ xs) ys [] ys' e l = absurd (omega arith)
same_fronts (x ∷ xs) ys (x' ∷ xs') ys' e l =
    let heads : x ≡ x' = cc in
    let tails : xs ++ ys ≡ xs' ++ ys' = cc in
    let more = same_fronts xs ys xs' ys' tails (omega arith) in
    let fronts : xs ≡ xs' = more.0 in
    (cc, more.1)

-- the same lexeme in the same bytes, and the same follows
pub record Same (a b : Lexeme) (own rest own' rest' : List ℕ) : Type 0 where
  pub lexeme : a ≡ b
  pub own_is : own ≡ own'
  pub rest_is : rest ≡ rest'

-- a text begins with one lexeme at most
pub one_front : (a b : Lexeme) (own rest own' rest' : List ℕ) → Begins a own rest → Begins b own' rest' → own ++ rest ≡ own' ++ rest' → Same a b own rest own' rest'
one_front a b own rest own' rest' f g e =
    let low = f.longest b own' rest' g.fits (sym e) in
    let high = g.longest a own rest f.fits e in
    let parts = same_fronts own rest own' rest' e (omega (arith, low, high)) in
    let there : Fits b own rest = subst (λ r. Fits b own r) (sym parts.1) (subst (λ o. Fits b o rest') (sym parts.0) g.fits) in
    record {
      lexeme = same_lexeme a b own rest f.fits there (same_class (class_of a) (class_of b) own rest own rest (lexeme_front a own rest f.fits) (lexeme_front b own rest there) refl);
      own_is = parts.0;
      rest_is = parts.1;
    }
