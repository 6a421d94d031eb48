use Rattle.std.proofs.Common.{Option, refl, ap, sym, subst, ◌∙◌}
use Rattle.pat_lexer.specs.declared.error.LexError.{LexError}
use Rattle.pat_lexer.specs.Lexed.{Lexed, HasRead}
use Rattle.pat_lexer.proofs.Histories.{has_refused, has_failed}
use Rattle.pat_lexer.proofs.lexer.Lexer.feed.Goals as goal

pub returns-in-Some-clause-read : goal.returns-in-Some-clause-read
returns-in-Some-clause-read c = λ bytes h.
    let refusal : Lexed → Option LexError = λ l. l.refusal in
    has_refused bytes c.args.piece.now c.args.self.now c.in-Some.refusal (ap refusal (sym c.self.view_is) ∙ c.in-Some.is) h

pub returns-in-Err-clause-read : goal.returns-in-Err-clause-read
returns-in-Err-clause-read c = λ bytes h.
    has_failed bytes c.args.piece.now _ _ c.in-Err.refusal c.in_default.is refl (subst (HasRead bytes) (sym c.self.view_is) h) (λ text more s. c.in-Err.ensures.refused text more s)
