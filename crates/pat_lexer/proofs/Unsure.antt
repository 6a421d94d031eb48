-- Texts of which no piece is known to be whole.
use Rattle.std.proofs.Common.{◌≡◌, ◌<◌, ◌≤◌, nat_le, ◌⊎◌, inl, inr, ℕ, pos, Bool, true, false, List, [], ◌∷◌, ◌++◌, length, refl, ap, sym, subst, ◌∙◌, arith, length-append, append_assoc, append-nil}
use Rattle.std.proofs.lemmas.Bool.Decides.{nat_tests}
use Rattle.std.specs.Str.{IsUtf8, StartsWithNoChar}
use Rattle.pat_lexer_spec.specs.Marks.{DoubleEquals, Arrow}
use Rattle.pat_lexer_spec.specs.Tokens.{Token, Integer, Mark}
use Rattle.pat_lexer_spec.specs.Characters.{is_digit, Each, number_after, IsNameText, Quotes, IsUnfinished}
use Rattle.pat_lexer_spec.specs.Lexemes.{Lexeme, Whole, TooWide, Fits, Begins, NothingFits, IsRun, greatest}
use Rattle.pat_lexer_spec.specs.Held.{IsNamed, NothingWhole, IsInComment}
use Rattle.pat_lexer_laws.proofs.Runs.{Each-append, push_some}
use Rattle.pat_lexer_laws.proofs.Classes.{Class, Slashes, Names, Fronts, class, lexeme_front, high_class}
use Rattle.pat_lexer_laws.proofs.Unique.{one_front}
use Rattle.pat_lexer_laws.proofs.Strings.{first_of}
use Rattle.pat_lexer_laws.proofs.NameBeginnings.{name_more_ascii}
use Rattle.pat_lexer_laws.proofs.Faults.{no_string, no_end_nil, no_end_escape, no_end_character, no_comment, NoEnd}
use Rattle.pat_lexer.specs.fronts.Spelled.{IsNameToken, name, word}
use Rattle.pat_lexer.proofs.Between.{name_token_begins, no_more_nil}
use Rattle.pat_lexer.proofs.Characters.{High, high_of, unfinished_high, bad_name}
use Rattle.pat_lexer.proofs.WordOr.{name_or_word}

-- where nothing fits, nothing is whole
nothing_fits : (text : List ℕ) → NothingFits text → NothingWhole text
nothing_fits text none lexeme own rest e w = none lexeme own rest (subst (λ r. Fits lexeme own r) (append-nil rest) (w.begins []).fits) e

-- nor where the bytes with more behind them are one piece
grows : (text more : List ℕ) (other : Lexeme) → 0 < length more → Fits other (text ++ more) [] → NothingWhole text
grows text more other some f lexeme own rest e w =
    let same : (text ++ more) ++ [] ≡ own ++ (rest ++ more) = append-nil (text ++ more) ∙ ap (λ l. l ++ more) (sym e) ∙ append_assoc own rest more in
    let long = (w.begins more).longest other (text ++ more) [] f same in
    let len : length own ≤ length text = omega (arith, ap length e, length-append own rest) in
    absurd (omega (arith, some, long, len, length-append text more))

pub nothing_unsure : NothingWhole []
nothing_unsure lexeme own rest e w =
    let front = lexeme_front lexeme own (rest ++ []) (w.begins []).fits in
    let no : front.front ∷ (front.tail ++ rest) ≡ [] = ap (λ l. l ++ rest) (sym front.is) ∙ e in
    absurd (let none : ⊥ = cc in none)

high_unfinished : (c : List ℕ) → IsUnfinished c → High c
high_unfinished c u = subst High (append-nil c) (high_of c [] (unfinished_high c u))

-- the bytes of a character, or none
pub character_unsure : (c : List ℕ) → (c ≡ []) ⊎ IsUnfinished c → NothingWhole c
character_unsure c (inl none) = subst NothingWhole (sym none) nothing_unsure
character_unsure c (inr u) = nothing_fits c (bad_name c (high_unfinished c u) (λ x after s e. absurd (u.none_whole x after s e)))

named : {own : List ℕ} {t : Token} → IsNameToken own t → IsNamed (Whole t)
named (name none) = tt
named (word same) = tt

-- a name that an ASCII letter makes longer
name_grows : (own : List ℕ) → IsNameText own → NothingWhole own
name_grows own n =
    let t = name_or_word (own ++ 97 ∷ []) in
    grows own (97 ∷ []) (Whole t.0) (omega arith) (name_token_begins [] t.1 (name_more_ascii own (97 ∷ []) n (refl, tt)) no_more_nil).fits

pub name_unsure : (own c : List ℕ) → IsNameText own → (c ≡ []) ⊎ IsUnfinished c → NothingWhole (own ++ c)
name_unsure own c n (inl none) = subst NothingWhole (sym (ap (λ l. own ++ l) none ∙ append-nil own)) (name_grows own n)
name_unsure own c n (inr u) = λ lexeme front rest e w.
    let t = name_or_word own in
    let begins : Begins lexeme front rest = subst (λ r. Begins lexeme front r) (append-nil rest) (w.begins []) in
    let same = one_front lexeme (Whole t.0) front rest own c begins (name_token_begins c t.1 n (λ x after s e. absurd (u.none_whole x after s e))) e in
    w.sure (subst IsNamed (sym same.lexeme) (named t.1)) (subst IsUnfinished (sym same.rest_is) u)

pub integer_unsure : (digits : List ℕ) → Each is_digit digits → NothingWhole digits
integer_unsure digits each = from (nat_le (number_after 0 (digits ++ 48 ∷ [])) greatest) refl
  where
    run : IsRun (digits ++ 48 ∷ []) []
    run = ((λ nil. push_some digits 48 nil), Each-append is_digit digits (48 ∷ []) each (refl, tt), tt)

    from : (v : Bool) → nat_le (number_after 0 (digits ++ 48 ∷ [])) greatest ≡ v → NothingWhole digits
    from true h = grows digits (48 ∷ []) (Whole (Integer (pos (number_after 0 (digits ++ 48 ∷ []))))) (omega arith) (run, grind (arith, nat_tests), refl)
    from false h = grows digits (48 ∷ []) TooWide (omega arith) (run, grind (arith, nat_tests))

pub string_unsure : (raw text c : List ℕ) → Quotes raw text → IsUtf8 raw → (c ≡ []) ⊎ IsUnfinished c → NothingWhole (34 ∷ (raw ++ c))
string_unsure raw text c q u (inl none) = nothing_fits (34 ∷ (raw ++ c)) (no_string raw text c q u (subst NoEnd (sym none) no_end_nil))
string_unsure raw text c q u (inr w) =
    let h = high_unfinished c w in
    nothing_fits (34 ∷ (raw ++ c)) (no_string raw text c q u (subst NoEnd (sym h.is) (no_end_character h.first h.others h.high (subst StartsWithNoChar h.is w.none_whole))))

pub escape_unsure : (raw text : List ℕ) → Quotes raw text → IsUtf8 raw → NothingWhole (34 ∷ (raw ++ 92 ∷ []))
escape_unsure raw text q u = nothing_fits (34 ∷ (raw ++ 92 ∷ [])) (no_string raw text (92 ∷ []) q u (no_end_escape [] tt))

pub slash_unsure : NothingWhole (47 ∷ [])
slash_unsure = nothing_fits (47 ∷ []) (no_comment [] tt)

pub equals_unsure : NothingWhole (61 ∷ [])
equals_unsure = grows (61 ∷ []) (61 ∷ []) (Whole (Mark DoubleEquals)) (omega arith) refl

pub minus_unsure : NothingWhole (45 ∷ [])
minus_unsure = grows (45 ∷ []) (62 ∷ []) (Whole (Mark Arrow)) (omega arith) refl

-- a text whose first byte is no slash is in no comment
pub outside : {text : List ℕ} {k : Class} → Fronts text k → (Slashes ≡ k → ⊥) → IsInComment text → ⊥
outside f apart i =
    let same : f.front ≡ 47 = ap first_of (sym f.is ∙ i.1) in
    apart (ap class (sym same) ∙ f.kind)

pub character_outside : (c : List ℕ) → (c ≡ []) ⊎ IsUnfinished c → IsInComment c → ⊥
character_outside c (inl none) i = let no : [] ≡ 47 ∷ 47 ∷ i.0 = sym none ∙ i.1 in absurd (let none : ⊥ = cc in none)
character_outside c (inr u) i =
    let h = high_unfinished c u in
    let front : Fronts c Names = record { front = h.first; tail = h.others; is = h.is; kind = high_class h.first h.high } in
    outside front (λ e. let no : ⊥ = cc in no) i
