use Rattle.std.proofs.Common.{◌≡◌, ◌≢◌, [], length, ap, sym, subst, arith}
use Rattle.std.proofs.lemmas.Bool.Decides.{nat_tests}
use Rattle.std.proofs.lemmas.Result.{err_from_is_err_and}
use Rattle.pat_lexer.specs.Explains.{Explains}
use Rattle.pat_lexer.specs.Reads.{progress}
use Rattle.pat_lexer.proofs.Standing.{free_of}
use Rattle.pat_lexer.proofs.Characters.{ends_refused}
use Rattle.pat_lexer.proofs.reader.Reader.finish.Goals as goal

pub returns-then-not-is_empty-clause-refused : goal.returns-then-not-is_empty-clause-refused
returns-then-not-is_empty-clause-refused c = λ text s.
    let p = progress c.args.self in
    let some : p.character ≢ [] = λ e. let none : length p.character ≡ 0 = ap length e in grind (arith, nat_tests, c.is_empty.ensures, c.if-not-is_empty.true, none) in
    subst (Explains text) (sym c.refuse_character.ensures) (ends_refused p text some s)

pub returns-in_err-close-clause-refused : goal.returns-in_err-close-clause-refused
returns-in_err-close-clause-refused c =
    let q = err_from_is_err_and c.from_residual.result c.from_residual.ensures.1 in
    rw (q.1, q.2) (λ text s. c.in_err-close.ensures.refused text [] tt s)

pub returns-clause-divided : goal.returns-clause-divided
returns-clause-divided c = λ text s.
    let r = c.in_ok-close.ensures.closed text [] tt s in
    let f = free_of (progress c.close.new.self) text [] c.in_ok-close.ensures.ended c.in_ok-close.ensures.characters r in
    (c.close.new.self.position, f.reaches)
