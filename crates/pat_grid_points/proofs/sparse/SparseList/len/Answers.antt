use Rattle.pat_grid_points.proofs.InBlocks.{list_count}
use Rattle.pat_grid_points.proofs.sparse.SparseList.len.Goals as goal

pub returns : goal.returns
returns g c =
    let s = c.self.inside in list_count s.count s.common s.starts s.blocks c.args.self.now c.self.invariant c.self.view_is
