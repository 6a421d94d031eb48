use Rattle.std.proofs.Common.{◌++◌, sym, ◌∙◌}
use Rattle.pat_lexer.proofs.Endings.{err_then, ends_at}
use Rattle.pat_lexer.proofs.reader.Reader.settle.Goals as goal

pub returns-clause-refused : goal.returns-clause-refused
returns-clause-refused c =
    let bytes = c.args.text.now in
    err_then c.close.result _ _ c.close.ensures.refused (λ e h text more s. h text (bytes ++ more) (ends_at c.args.self.now.unfinished bytes more c.requires.some (sym c.is_ended_by.ensures ∙ c.if-not-is_ended_by.false)) s)
