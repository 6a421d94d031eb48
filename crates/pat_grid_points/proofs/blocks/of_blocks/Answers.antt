use Rattle.std.proofs.Common.{◌+◌, ◌/◌, ◌∙◌, sym, subst, replicate, ap₂}
use Rattle.pat_grid_points.specs.Sparse.{sparse, AreBlocks}
use Rattle.pat_grid_points.proofs.InBlocks.{repeated, repeats}
use Rattle.pat_grid_points.proofs.blocks.of_blocks.Goals as goal

pub invariant_of-result : goal.invariant_of-result
invariant_of-result g c =
    let a = c.args in
    subst (λ xs. AreBlocks a.count a.common xs a.blocks) (sym c.requires.starts)
    (subst (λ xs. AreBlocks a.count a.common (replicate (a.count / 16 + 1) 0) xs) (sym c.requires.blocks) (repeated a.count a.common c.ranges.count.fits))

pub returns : goal.returns
returns g c =
    let a = c.args in
    ap₂ (λ xs ys. sparse a.count a.common xs ys) c.requires.starts c.requires.blocks ∙ repeats a.count a.common
