use Rattle.std.proofs.Common.{◌≡◌, ℕ, List, ◌∷◌, ◌++◌, length, refl, ap, arith, length-append}
use Rattle.pat_lexer_spec.specs.Tokens.{Spanned}
use Rattle.pat_lexer_spec.specs.Held.{IsHeld, piece, in_comment, NothingWhole}
use Rattle.pat_lexer_laws.proofs.held_law.Goals as goal

-- the whole is no part of itself behind the mark of a comment
shorter : (front body held bytes : List ℕ) → held ≡ bytes → bytes ≡ front ++ 47 ∷ 47 ∷ (body ++ held) → ⊥
shorter front body held bytes same e =
    let one : length bytes ≡ length (front ++ 47 ∷ 47 ∷ (body ++ held)) = ap length e in
    absurd (omega (arith, one, ap length same, length-append front (47 ∷ 47 ∷ (body ++ held)), length-append body held))

nothing_whole : (bytes held : List ℕ) (tokens : List Spanned) → held ≡ bytes → IsHeld bytes tokens held → NothingWhole held
nothing_whole bytes held tokens same (piece front split leads none out) = none
nothing_whole bytes held tokens same (in_comment front body split leads text each c) = absurd (shorter front body held bytes same split)

pub returns : goal.returns
returns c = λ bytes tokens h. nothing_whole bytes bytes tokens refl h
