use Rattle.std.proofs.Common.{◌+◌, ◌*◌, ◌%◌, get_or, sym, ap₂, ◌∙◌}
use Rattle.pat_grid_points.proofs.InBlocks.{list_block, list_at}
use Rattle.pat_grid_points.proofs.sparse.SparseList.get.Goals as goal

pub get-start-requires : goal.get-start-requires
get-start-requires g c =
    let s = c.self.inside in
    list_block s.count s.common s.starts s.blocks c.args.self.now c.self.invariant c.self.view_is c.args.place c.requires

pub returns : goal.returns
returns g c = λ d.
    let s = c.self.inside in
    list_at s.count s.common s.starts s.blocks c.args.self.now c.self.invariant c.self.view_is c.args.place d c.index-as_slice-start.result c.requires
    ∙ ap₂ (λ start ys. get_or ys (start * 16 + c.args.place % 16) c.index-as_slice-start.result) (c.get-start.ensures 0) (sym c.as_slice.ensures)
    ∙ sym c.index-as_slice-start.is
