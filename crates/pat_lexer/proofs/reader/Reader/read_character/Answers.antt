use Rattle.std.proofs.Common.{rules, sym, subst}
use Rattle.std.proofs.lemmas.Result.{err_from_is_err_and}
use Rattle.pat_lexer.specs.fronts.Fronts.{IsCut, FrontIs}
use Rattle.pat_lexer.specs.Explains.{Explains}
use Rattle.pat_lexer.specs.Reads.{progress}
use Rattle.pat_lexer.proofs.Slices.{by_first, at_first}
use Rattle.pat_lexer.proofs.reader.Reader.read_character.Goals as goal

pub returns-in_err-take : goal.returns-in_err-take
returns-in_err-take c =
    let q = err_from_is_err_and c.from_residual-in_err-take.result c.from_residual-in_err-take.ensures.1 in
    let bytes = c.as_slice.ensures.value in
    rw (q.1, q.2) (by_first (progress c.args.self.now) (λ text. Explains text c.in_err-take.field-0.0) c.args.text.now c.requires.some (λ text more s.
    let j = c.in_ok-extend_character.ensures.extended text more s in
    c.in_err-take.ensures.refused (subst (FrontIs c.front_of-front.result) bytes (c.front_of-front.ensures (subst IsCut (sym bytes) j.cut))) text more j))

pub returns : goal.returns
returns c =
    let bytes = c.as_slice.ensures.value in (
      search rules,
      search rules,
      search rules,
      at_first (progress c.args.self.now) (progress c.take.new.self) c.args.text.now c.requires.some (λ text more s.
          let j = c.in_ok-extend_character.ensures.extended text more s in
          c.in_ok-take.ensures.taken (subst (FrontIs c.front_of-front.result) bytes (c.front_of-front.ensures (subst IsCut (sym bytes) j.cut))) text more j),
    )
