-- Which mark a text begins with.
use Rattle.std.proofs.Common.{◌≡◌, ◌≤◌, ◌==◌, ℕ, true, List, ◌∷◌, ◌++◌, length, refl, ap, sym, subst, ◌∙◌, arith}
use Rattle.pat_lexer_spec.specs.Marks.{Mark as MarkKind, mark_bytes, RoundOpen, RoundClose, CurlyOpen, CurlyClose, SquareOpen, SquareClose, Comma, Semicolon, Colon, Dot, Plus, Minus, Star, Less, Bang, Question, Equals, DoubleEquals, Arrow}
use Rattle.pat_lexer_spec.specs.Tokens.{Mark}
use Rattle.pat_lexer_spec.specs.Characters.{FrontFails}
use Rattle.pat_lexer_spec.specs.Lexemes.{Whole, Fits, Begins, NoLonger}
use Rattle.pat_lexer_laws.proofs.Runs.{both}
use Rattle.pat_lexer_laws.proofs.ByClass.{only_mark}
use Rattle.pat_lexer_laws.proofs.Strings.{first_of, rest_of, apart}
use Rattle.pat_lexer_laws.proofs.Beginnings.{longest_of_kind}

not_followed : (b : ℕ) (rest more : List ℕ) → (b == b) ≡ true → FrontFails (λ x. x == b) rest → b ∷ more ≡ rest → ⊥
not_followed b rest more same fails e = let there : FrontFails (λ x. x == b) (b ∷ more) = subst (FrontFails (λ x. x == b)) (sym e) fails in both (b == b) same there

pairs : (m : MarkKind) (rest more : List ℕ) → NoLonger m rest → mark_bytes DoubleEquals ++ more ≡ mark_bytes m ++ rest → 2 ≤ length (mark_bytes m)
pairs RoundOpen rest more n e = absurd (apart 61 40 refl refl (ap first_of e))
pairs RoundClose rest more n e = absurd (apart 61 41 refl refl (ap first_of e))
pairs CurlyOpen rest more n e = absurd (apart 61 123 refl refl (ap first_of e))
pairs CurlyClose rest more n e = absurd (apart 61 125 refl refl (ap first_of e))
pairs SquareOpen rest more n e = absurd (apart 61 91 refl refl (ap first_of e))
pairs SquareClose rest more n e = absurd (apart 61 93 refl refl (ap first_of e))
pairs Comma rest more n e = absurd (apart 61 44 refl refl (ap first_of e))
pairs Semicolon rest more n e = absurd (apart 61 59 refl refl (ap first_of e))
pairs Colon rest more n e = absurd (apart 61 58 refl refl (ap first_of e))
pairs Dot rest more n e = absurd (apart 61 46 refl refl (ap first_of e))
pairs Plus rest more n e = absurd (apart 61 43 refl refl (ap first_of e))
pairs Minus rest more n e = absurd (apart 61 45 refl refl (ap first_of e))
pairs Star rest more n e = absurd (apart 61 42 refl refl (ap first_of e))
pairs Less rest more n e = absurd (apart 61 60 refl refl (ap first_of e))
pairs Bang rest more n e = absurd (apart 61 33 refl refl (ap first_of e))
pairs Question rest more n e = absurd (apart 61 63 refl refl (ap first_of e))
pairs Equals rest more n e = absurd (not_followed 61 rest more refl n (ap rest_of e))
pairs DoubleEquals rest more n e = omega arith
pairs Arrow rest more n e = omega arith

arrows : (m : MarkKind) (rest more : List ℕ) → NoLonger m rest → mark_bytes Arrow ++ more ≡ mark_bytes m ++ rest → 2 ≤ length (mark_bytes m)
arrows RoundOpen rest more n e = absurd (apart 45 40 refl refl (ap first_of e))
arrows RoundClose rest more n e = absurd (apart 45 41 refl refl (ap first_of e))
arrows CurlyOpen rest more n e = absurd (apart 45 123 refl refl (ap first_of e))
arrows CurlyClose rest more n e = absurd (apart 45 125 refl refl (ap first_of e))
arrows SquareOpen rest more n e = absurd (apart 45 91 refl refl (ap first_of e))
arrows SquareClose rest more n e = absurd (apart 45 93 refl refl (ap first_of e))
arrows Comma rest more n e = absurd (apart 45 44 refl refl (ap first_of e))
arrows Semicolon rest more n e = absurd (apart 45 59 refl refl (ap first_of e))
arrows Colon rest more n e = absurd (apart 45 58 refl refl (ap first_of e))
arrows Dot rest more n e = absurd (apart 45 46 refl refl (ap first_of e))
arrows Plus rest more n e = absurd (apart 45 43 refl refl (ap first_of e))
arrows Minus rest more n e = absurd (not_followed 62 rest more refl n (ap rest_of e))
arrows Star rest more n e = absurd (apart 45 42 refl refl (ap first_of e))
arrows Less rest more n e = absurd (apart 45 60 refl refl (ap first_of e))
arrows Bang rest more n e = absurd (apart 45 33 refl refl (ap first_of e))
arrows Question rest more n e = absurd (apart 45 63 refl refl (ap first_of e))
arrows Equals rest more n e = absurd (apart 45 61 refl refl (ap first_of e))
arrows DoubleEquals rest more n e = omega arith
arrows Arrow rest more n e = omega arith

short : (m : MarkKind) → 1 ≤ length (mark_bytes m)
short RoundOpen = omega arith
short RoundClose = omega arith
short CurlyOpen = omega arith
short CurlyClose = omega arith
short SquareOpen = omega arith
short SquareClose = omega arith
short Comma = omega arith
short Semicolon = omega arith
short Colon = omega arith
short Dot = omega arith
short Plus = omega arith
short Minus = omega arith
short Star = omega arith
short Less = omega arith
short Bang = omega arith
short Question = omega arith
short Equals = omega arith
short DoubleEquals = omega arith
short Arrow = omega arith

longest : (m other : MarkKind) (rest more : List ℕ) → NoLonger m rest → mark_bytes other ++ more ≡ mark_bytes m ++ rest → length (mark_bytes other) ≤ length (mark_bytes m)
longest m DoubleEquals rest more n e = pairs m rest more n e
longest m Arrow rest more n e = arrows m rest more n e
longest m RoundOpen rest more n e = short m
longest m RoundClose rest more n e = short m
longest m CurlyOpen rest more n e = short m
longest m CurlyClose rest more n e = short m
longest m SquareOpen rest more n e = short m
longest m SquareClose rest more n e = short m
longest m Comma rest more n e = short m
longest m Semicolon rest more n e = short m
longest m Colon rest more n e = short m
longest m Dot rest more n e = short m
longest m Plus rest more n e = short m
longest m Minus rest more n e = short m
longest m Star rest more n e = short m
longest m Less rest more n e = short m
longest m Bang rest more n e = short m
longest m Question rest more n e = short m
longest m Equals rest more n e = short m

pub mark_begins : (m : MarkKind) (rest : List ℕ) → NoLonger m rest → Begins (Whole (Mark m)) (mark_bytes m) rest
mark_begins m rest n = longest_of_kind (Whole (Mark m)) (mark_bytes m) rest refl (λ other bytes more k g e.
    let s = only_mark other k in
    let bytes_are : bytes ≡ mark_bytes s.0 = subst (λ l. Fits l bytes more) s.1 g in
    subst (λ l. length l ≤ length (mark_bytes m)) (sym bytes_are) (longest m s.0 rest more n (ap (λ l. l ++ more) (sym bytes_are) ∙ e)))
