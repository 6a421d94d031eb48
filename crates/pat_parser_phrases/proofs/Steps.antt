-- What the machine answers where the next token is known, and where there is none.
use Rattle.std.proofs.Common.{◌≡◌, ◌≢◌, ℕ, List, [], ◌∷◌, Option, None, Err, refl, sym, subst, ap, ◌∙◌, Result}
use Rattle.std.specs.Result.{IsErrAnd}
use Rattle.std.proofs.lemmas.Result.{err_from_is_err_and}
use Rattle.pat_lexer_spec.specs.Marks as mark
use Rattle.pat_lexer_spec.specs.Tokens.{Token as Kind, Mark}
use Rattle.pat_parser_spec.specs.Trees.{Tree, Span}
use Rattle.pat_parser_spec.specs.Machine as m
use Rattle.pat_syntax.specs.declared.token.Token.{Token}
use Rattle.pat_syntax.specs.Views.{kind_view}
use Rattle.pat_tree.specs.Views.{span_view}
use Rattle.pat_parser_phrases.specs.declared.tokens.fault.ParseError.{ParseError}
use Rattle.pat_parser_phrases.specs.tokens.Answers.{Answer, Rest, answer, after, moved, OnlyMark, FailsAt, Parses}

-- the next token is the first of those that are left
pub taken : (x : m.State) (t : Token) (old rest : Rest) → old ≡ (t ∷ rest.0, rest.1) → answer x old ≡ after (moved x (kind_view t.kind) (span_view t.span)) t.span.from rest
taken x t old rest e = subst (λ (o : Rest). answer x o ≡ after (moved x (kind_view t.kind) (span_view t.span)) t.span.from rest) (sym e) refl

at_end : (n : ℕ) (o : Option Tree) → o ≡ None → m.ended n o ≡ Err (m.Unexpected, n)
at_end n o e = subst (λ (p : Option Tree). m.ended n p ≡ Err (m.Unexpected, n)) (sym e) refl

-- no token is left, and the text may not end
pub no_token : (x : m.State) (old : Rest) → m.finish x ≡ None → old.0 ≡ [] → answer x old ≡ Err (m.Unexpected, old.1)
no_token x old e h = subst (λ (ts : List Token). answer x (ts, old.1) ≡ Err (m.Unexpected, old.1)) (sym h) (at_end old.1 (m.finish x) e)

-- another token than the one mark that may stand is refused
pub refused : (x : m.State) (c : mark.Mark) (d : Kind) (w : Span) (n : ℕ) (old rest : Rest) → OnlyMark x c → d ≢ Mark c → answer x old ≡ after (moved x d w) n rest → answer x old ≡ Err (m.Unexpected, n)
refused x c d w n old rest only other e = e ∙ ap (λ (y : m.Move). after y n rest) (only.others d w other)

-- what is read behind some tokens is read from their front
pub from_front : {X : Type 0} (r : Result X ParseError) (p q : Answer) (behind : X → Answer) → p ≡ q → Parses r q behind → Parses r p behind
from_front r p q behind e h = subst (λ (a : Answer). Parses r a behind) (sym e) h

-- an error behind some tokens is one from their front
pub fails_from_front : (e : ParseError) (p q : Answer) → p ≡ q → FailsAt e q → FailsAt e p
fails_from_front e p q h f = subst (λ (a : Answer). FailsAt e a) (sym h) f

-- an error that is passed on
pub failed : {X : Type 0} (r : Result X ParseError) (e : ParseError) (read : Answer) (behind : X → Answer) → IsErrAnd r (λ x. x ≡ e) → FailsAt e read → Parses r read behind
failed r e read behind is f = let p = err_from_is_err_and r is in rw (p.1, p.2) f
