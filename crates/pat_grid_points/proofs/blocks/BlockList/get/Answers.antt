use Rattle.std.proofs.Common.{◌+◌, ◌*◌, ◌/◌, ◌%◌, get_or, sym, ap₂, ◌∙◌, subst, length, ◌<◌}
use Rattle.pat_grid_points.proofs.InBlocks.{list_block, list_at}
use Rattle.pat_grid_points.proofs.blocks.BlockList.get.Goals as goal

pub bounds-as_slice-place : goal.bounds-as_slice-place
bounds-as_slice-place g c =
    let s = c.self.inside in
    subst (λ xs. c.args.place / 16 < length xs) (sym c.as_slice.ensures)
    (list_block s.count s.common s.starts s.blocks c.args.self.now c.self.invariant c.self.view_is c.args.place c.requires)

pub returns : goal.returns
returns g c = λ d.
    let s = c.self.inside in
    list_at s.count s.common s.starts s.blocks c.args.self.now c.self.invariant c.self.view_is c.args.place d c.index-as_slice-start.result c.requires
    ∙ ap₂ (λ xs ys. get_or ys (get_or xs (c.args.place / 16) 0 * 16 + c.args.place % 16) c.index-as_slice-start.result) (sym c.as_slice.ensures) (sym c.as_slice-2.ensures)
    ∙ sym c.index-as_slice-start.is
