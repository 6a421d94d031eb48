-- Which lexeme a text begins with: blanks, integers, strings and comments.
use Rattle.std.proofs.Common.{◌≡◌, ◌≤◌, ◌⊎◌, inl, inr, ℕ, ℤ, pos, true, List, [], ◌∷◌, ◌++◌, length, refl, ap, sym, subst, ◌∙◌, arith, append_assoc, append-nil}
use Rattle.std.specs.Str.{IsUtf8}
use Rattle.pat_lexer_spec.specs.Tokens.{Integer, Str}
use Rattle.pat_lexer_spec.specs.Characters.{is_digit, is_blank, is_in_line, Each, FrontFails, number_after, Quotes}
use Rattle.pat_lexer_spec.specs.Lexemes.{Lexeme, Blank, Comment, Whole, TooWide, Fits, Begins, greatest, IsRun}
use Rattle.pat_lexer_laws.proofs.Runs.{split_once}
use Rattle.pat_lexer_laws.proofs.Classes.{lexeme_front, same_class, class_of}
use Rattle.pat_lexer_laws.proofs.ByClass.{only_blank, only_comment, only_string, only_digits}
use Rattle.pat_lexer_laws.proofs.Strings.{goes_on, nothing_left, rest_of}

-- a lexeme is the longest where no other that begins with a byte of its kind is longer
pub longest_of_kind : (lexeme : Lexeme) (own rest : List ℕ) → Fits lexeme own rest → ((other : Lexeme) (bytes more : List ℕ) → class_of other ≡ class_of lexeme → Fits other bytes more → bytes ++ more ≡ own ++ rest → length bytes ≤ length own) → Begins lexeme own rest
longest_of_kind lexeme own rest f longest = record {
  fits = f;
  longest = λ other bytes more g e. longest other bytes more (same_class (class_of other) (class_of lexeme) bytes more own rest (lexeme_front other bytes more g) (lexeme_front lexeme own rest f) e) g e;
}

pub blank_begins : (b : ℕ) (rest : List ℕ) → is_blank b ≡ true → Begins Blank (b ∷ []) rest
blank_begins b rest h = longest_of_kind Blank (b ∷ []) rest (b, refl, h) (λ other bytes more k g e.
    let blank : Fits Blank bytes more = subst (λ l. Fits l bytes more) (only_blank other k) g in
    let one : length bytes ≡ 1 = ap length blank.1 in
    omega (arith, one))

run_length : (own rest bytes more : List ℕ) → IsRun own rest → IsRun bytes more → bytes ++ more ≡ own ++ rest → length bytes ≤ length own
run_length own rest bytes more f g e =
    let same : length bytes ≡ length own = ap length (split_once is_digit bytes more own rest g.1 g.2 f.1 f.2 e).0 in
    omega (arith, same)

pub integer_begins : (own rest : List ℕ) → IsRun own rest → number_after 0 own ≤ greatest → Begins (Whole (Integer (pos (number_after 0 own)))) own rest
integer_begins own rest run narrow = longest_of_kind (Whole (Integer (pos (number_after 0 own)))) own rest (run, narrow, refl) (λ other bytes more k g e. from other bytes more (only_digits other k) g e)
  where
    from : (other : Lexeme) (bytes more : List ℕ) → (other ≡ TooWide) ⊎ ((n : ℤ) × (other ≡ Whole (Integer n))) → Fits other bytes more → bytes ++ more ≡ own ++ rest → length bytes ≤ length own
    from other bytes more (inl s) g e = let wide : Fits TooWide bytes more = subst (λ l. Fits l bytes more) s g in run_length own rest bytes more run wide.0 e
    from other bytes more (inr s) g e = let whole : Fits (Whole (Integer s.0)) bytes more = subst (λ l. Fits l bytes more) s.1 g in run_length own rest bytes more run whole.0 e

pub string_begins : (raw text rest : List ℕ) → IsUtf8 raw → Quotes raw text → Begins (Whole (Str text)) (34 ∷ (raw ++ 34 ∷ [])) rest
string_begins raw text rest u q = longest_of_kind (Whole (Str text)) (34 ∷ (raw ++ 34 ∷ [])) rest (raw, refl, u, q) (λ other bytes more k g e.
    let s = only_string other k in
    let other_string : Fits (Whole (Str s.0)) bytes more = subst (λ l. Fits l bytes more) s.1 g in
    let same : 34 ∷ (raw ++ 34 ∷ rest) ≡ 34 ∷ (other_string.0 ++ 34 ∷ more) = ap (λ l. 34 ∷ l) (sym (append_assoc raw (34 ∷ []) rest)) ∙ sym e ∙ ap (λ l. l ++ more) other_string.1 ∙ ap (λ l. 34 ∷ l) (append_assoc other_string.0 (34 ∷ []) more) in
    let on = goes_on (34 ∷ rest) more q other_string.3 (ap rest_of same) in
    let none : on.more ≡ [] = nothing_left more rest on.quotes on.tail_is in
    let one : other_string.0 ≡ raw = on.whole_is ∙ ap (λ l. raw ++ l) none ∙ append-nil raw in
    let length_is : length bytes ≡ length (34 ∷ (raw ++ 34 ∷ [])) = ap length other_string.1 ∙ ap (λ l. length (34 ∷ (l ++ 34 ∷ []))) one in
    omega (arith, length_is))

pub comment_begins : (body rest : List ℕ) → IsUtf8 body → Each is_in_line body → FrontFails is_in_line rest → Begins Comment (47 ∷ 47 ∷ body) rest
comment_begins body rest u each stops = longest_of_kind Comment (47 ∷ 47 ∷ body) rest (body, refl, u, each, stops) (λ other bytes more k g e.
    let comment : Fits Comment bytes more = subst (λ l. Fits l bytes more) (only_comment other k) g in
    let same : 47 ∷ 47 ∷ (comment.0 ++ more) ≡ 47 ∷ 47 ∷ (body ++ rest) = sym (ap (λ l. l ++ more) comment.1) ∙ e in
    let bodies : comment.0 ≡ body = (split_once is_in_line comment.0 more body rest comment.3 comment.4 each stops (ap (λ l. rest_of (rest_of l)) same)).0 in
    let length_is : length bytes ≡ length (47 ∷ 47 ∷ body) = ap length comment.1 ∙ ap (λ l. length (47 ∷ 47 ∷ l)) bodies in
    omega (arith, length_is))
