use Rattle.std.proofs.Common.{◌+◌, ◌*◌, ◌%◌, ap, sym, ◌∙◌, set, arith}
use Rattle.pat_grid_points.specs.Sparse.{sparse}
use Rattle.pat_grid_points.proofs.InBlocks.{list_count, list_block, written_set}
use Rattle.pat_grid_points.proofs.sparse.SparseList.set.Goals as goal

-- A `BlockList` owes the same; it reads its starts otherwise. What holds of both stands in `InBlocks`.
pub begin-requires-clause-there : goal.begin-requires-clause-there
begin-requires-clause-there g c =
    let s = c.self.inside in
    list_block s.count s.common s.starts s.blocks c.args.self.now c.self.invariant c.self.view_is c.args.place c.requires

pub returns-clause-ok : goal.returns-clause-ok
returns-clause-ok g c =
    let s = c.self.inside in
    let place = c.args.place in
    let item = c.args.item in
    let starts = c.begin.new.starts in
    let blocks = c.begin.new.blocks in
    let same = c.self-inside.view_is in
    let begun = c.in_ok-start.ensures.ok s.count s.common c.self.invariant in
    let count = list_count s.count s.common s.starts s.blocks c.args.self.now c.self.invariant c.self.view_is in
    let room = c.requires in
    ap (λ r. sparse r.count r.common r.starts (set r.blocks (c.in_ok-start.start * 16 + place % 16) item)) same
    ∙ ap (λ n. sparse s.count s.common starts (set blocks (n * 16 + place % 16) item)) (sym begun.2)
    ∙ written_set s.count s.common starts blocks place item begun.0 (λ e. begun.3 (sym begun.2 ∙ e)) (omega arith)
    ∙ ap (λ xs. set xs place item) (begun.1 ∙ c.self.view_is)
