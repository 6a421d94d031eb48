use Rattle.std.proofs.Common.{◌+◌, ◌*◌, ◌/◌, ◌%◌, ap, sym, ◌∙◌, subst, arith}
use Rattle.pat_grid_points.specs.Sparse.{sparse, IsFilled}
use Rattle.pat_grid_points.proofs.InBlocks.{list_count, run_filled}
use Rattle.pat_grid_points.proofs.sparse.SparseList.fill_within.Goals as goal

pub begin-requires-clause-there : goal.begin-requires-clause-there
begin-requires-clause-there g c =
    let s = c.self.inside in
    let n = list_count s.count s.common s.starts s.blocks c.args.self.now c.self.invariant c.self.view_is in
    let m = c.self.invariant.as_many in
    let room = c.requires.there in
    omega arith

pub begin-requires-clause-first : goal.begin-requires-clause-first
begin-requires-clause-first g c =
    let w = c.self.invariant.within 0 in
    omega arith

pub returns : goal.returns
returns g c =
    let s = c.self.inside in
    let place = c.args.place in
    let starts = c.begin.new.starts in
    let begun = c.in_ok-start.ensures.ok s.count s.common c.self.invariant in
    let count = list_count s.count s.common s.starts s.blocks c.args.self.now c.self.invariant c.self.view_is in
    let room = c.requires.there in
    let at = ap (λ n. n * 16 + place % 16) (sym begun.2) in
    let run = subst (λ from. IsFilled from c.args.count c.args.item c.begin.new.blocks c.put_run.new.blocks) at c.put_run.ensures in
    subst (λ xs. IsFilled place c.args.count c.args.item xs (sparse s.count s.common starts c.put_run.new.blocks)) (begun.1 ∙ c.self.view_is)
    (run_filled s.count s.common starts c.begin.new.blocks c.put_run.new.blocks place c.args.count c.args.item begun.0 (λ e. begun.3 (sym begun.2 ∙ e)) c.requires.block run (omega arith))

pub put_run-requires : goal.put_run-requires
put_run-requires g c =
    let s = c.self.inside in
    let begun = c.in_ok-start.ensures.ok s.count s.common c.self.invariant in
    let w = begun.0.within (c.args.place / 16) in
    let at = begun.2 in
    let room = c.requires.block in
    omega arith
