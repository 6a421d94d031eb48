use Rattle.std.proofs.Common.{sym, subst}
use Rattle.pat_lexer.specs.Lexed.{HasRead}
use Rattle.pat_lexer.proofs.Endings.{ok_then, err_then}
use Rattle.pat_lexer.proofs.Histories.{stands_at_end, refused_at_end}
use Rattle.pat_lexer.proofs.lexer.Lexer.finish.Goals as goal

pub returns-in-Some-clause-refused : goal.returns-in-Some-clause-refused
returns-in-Some-clause-refused c = λ bytes h.
    refused_at_end bytes _ c.in-Some.refusal c.in-Some.is (subst (HasRead bytes) (sym c.self.view_is) h)

pub returns-in-None-clause-divided : goal.returns-in-None-clause-divided
returns-in-None-clause-divided c = λ bytes h.
    ok_then c.finish.result _ _ c.finish.ensures.divided (λ tokens d. d bytes (stands_at_end bytes _ c.in-None.is (subst (HasRead bytes) (sym c.self.view_is) h)))

pub returns-in-None-clause-refused : goal.returns-in-None-clause-refused
returns-in-None-clause-refused c = λ bytes h.
    err_then c.finish.result _ _ c.finish.ensures.refused (λ e d. d bytes (stands_at_end bytes _ c.in-None.is (subst (HasRead bytes) (sym c.self.view_is) h)))
