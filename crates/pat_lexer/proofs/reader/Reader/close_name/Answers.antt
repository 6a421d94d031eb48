use Rattle.std.proofs.Common.{subst}
use Rattle.pat_syntax.specs.Views.{kind_view}
use Rattle.pat_lexer.specs.fronts.Spelled.{IsNameToken}
use Rattle.pat_lexer.specs.Ends.{EndsAt}
use Rattle.pat_lexer.specs.Reads.{progress}
use Rattle.pat_lexer.proofs.Slices.{moved}
use Rattle.pat_lexer.proofs.Inside.{name_closes}
use Rattle.pat_lexer.proofs.Endings.{ok_then, ends_name}
use Rattle.pat_lexer.proofs.reader.Reader.close_name.Goals as goal

pub returns-clause-closed : goal.returns-clause-closed
returns-clause-closed c =
    let p = progress c.args.self.now in
    ok_then c.push.result _ _ c.push.ensures.pushed (λ _ e text rest at s. moved _ (progress c.push.new.self) text rest e (name_closes p text rest (kind_view c.in_ok-kind.kind) c.requires.kind c.requires.characters (ends_name rest (subst (λ u. EndsAt u rest) c.requires.kind at)) (subst (λ l. IsNameToken l (kind_view c.in_ok-kind.kind)) c.as_slice.ensures.value c.in_ok-kind.ensures) s))
