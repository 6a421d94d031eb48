use Rattle.std.proofs.Common.{sym, subst}
use Rattle.pat_lexer_spec.specs.Tokens.{Name}
use Rattle.pat_lexer.specs.fronts.Spelled.{IsNameToken, name, word}
use Rattle.pat_lexer.proofs.fronts.spelling.name_token.Goals as goal

pub returns-in-Some : goal.returns-in-Some
returns-in-Some c = word c.in-Some.ensures.found

pub returns-in_ok-text-in-None : goal.returns-in_ok-text-in-None
returns-in_ok-text-in-None c =
    subst (λ l. IsNameToken c.args.bytes.now (Name l)) (sym c.in_ok-text-in-None.ensures) (name c.in-None.ensures.none)
