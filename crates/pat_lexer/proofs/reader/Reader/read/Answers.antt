use Rattle.std.proofs.Common.{◌++◌, sym, subst}
use Rattle.std.proofs.lemmas.List.{take_rest}
use Rattle.std.proofs.lemmas.Result.{err_from_is_err_and}
use Rattle.pat_lexer.specs.Progress.{Stands}
use Rattle.pat_lexer.specs.Reads.{progress}
use Rattle.pat_lexer.proofs.reader.Reader.read.Goals as goal

pub returns-in_err-at-clause-refused : goal.returns-in_err-at-clause-refused
returns-in_err-at-clause-refused c =
    let q = err_from_is_err_and c.from_residual.result c.from_residual.ensures.1 in
    rw (q.1, q.2) (λ text more s. c.in_err-at.ensures text more (subst (λ l. Stands (progress c.loop-at.self) text (l ++ more)) (sym (take_rest c.args.piece.now c.loop-at.at)) (c.loop-at.invariant.read text more s)))
