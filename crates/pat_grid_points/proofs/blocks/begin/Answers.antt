use Rattle.std.proofs.Common.{◌≡◌, ◌/◌, sym, ap, ap₂, ◌∙◌, subst, get_or, set}
use Rattle.pat_grid_points.specs.Sparse.{sparse, AreBlocks}
use Rattle.pat_grid_points.proofs.InBlocks.{grown, begun, begun_same, begun_there}
use Rattle.pat_grid_points.proofs.blocks.begin.Goals as goal

pub returns-clause-ok : goal.returns-clause-ok
returns-clause-ok g c = λ count common h.
    let starts = c.args.starts.now in
    let old = c.args.blocks.now in
    let new = c.repeat_first.new.blocks in
    let block = c.args.block in
    let none : get_or starts block 0 ≡ 0 = ap (λ xs. get_or xs block 0) (sym c.as_slice.ensures) ∙ c.if-as_slice-block-ne0.false in
    let more = grown common old new c.requires.first c.in_ok-repeat_first.ensures.ok in
    subst (λ xs. AreBlocks count common xs new × (sparse count common xs new ≡ sparse count common starts old) × (get_or xs block 0 ≡ 0 → ⊥))
    (ap₂ (λ xs n. set xs block (n / 16)) (sym c.starts.view_is) (sym c.len-start.ensures)) (
      begun count common starts old new block h c.requires.there none more,
      begun_same count common starts old new block h c.requires.there none more,
      begun_there count common starts old new block h c.requires.there none more,
    )
