use Rattle.std.proofs.Common.{◌∷◌, get_or, sym, ◌∙◌}
use Rattle.pat_lexer_spec.specs.Divisions.{IsRefused, BadToken}
use Rattle.pat_lexer.specs.Reads.{progress}
use Rattle.pat_lexer.proofs.Slices.{by_first}
use Rattle.pat_lexer.proofs.Inside.{escape_refused}
use Rattle.pat_lexer.proofs.reader.Reader.read_escape.Goals as goal

pub returns-else-is_escapable : goal.returns-else-is_escapable
returns-else-is_escapable c =
    let p = progress c.args.self.now in
    let bytes = c.args.text.now in
    by_first p (λ text. IsRefused text (BadToken p.start)) bytes c.requires.some (λ text more s. escape_refused p text (get_or bytes 0 0 ∷ more) c.requires.kind c.requires.characters (sym c.is_escapable.ensures ∙ c.if-is_escapable.false) s)
