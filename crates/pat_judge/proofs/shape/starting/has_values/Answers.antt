use Rattle.std.proofs.Common.{◌&&◌, ap₂, ◌∙◌}
use Rattle.pat_judge.proofs.Counted.{enough_of}
use Rattle.pat_judge.proofs.shape.starting.has_values.Goals as goal

pub returns : goal.returns
returns c =
    c.both.ensures
    ∙ ap₂ (λ a b. a && b)
    (enough_of c.args.program.now c.args.derivation.now c.as_slice.result.now c.len.result c.are_enough-enough.result c.as_slice.ensures c.len.ensures c.are_enough-enough.ensures)
    c.values_fit-fit.ensures
