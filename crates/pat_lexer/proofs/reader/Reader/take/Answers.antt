use Rattle.std.proofs.Common.{◌++◌, sym, subst}
use Rattle.pat_lexer.specs.fronts.Fronts.{FrontIs}
use Rattle.pat_lexer.specs.Explains.{Explains}
use Rattle.pat_lexer.specs.Reads.{progress}
use Rattle.pat_lexer.proofs.Characters.{judged_refused, none_taken}
use Rattle.pat_lexer.proofs.reader.Reader.take.Goals as goal

pub returns-in-Bad-clause-refused : goal.returns-in-Bad-clause-refused
returns-in-Bad-clause-refused c = λ f text more j.
    let p = progress c.args.self.now in
    let bad = subst (λ x. FrontIs x p.character) c.in-Bad.is f in
    subst (Explains text) (sym c.refuse_character.ensures) (judged_refused p text more j (none_taken p.unfinished (p.character ++ more) j.takes (bad more)))
