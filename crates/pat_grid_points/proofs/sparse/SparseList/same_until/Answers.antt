use Rattle.std.proofs.Common.{◌*◌, ◌∙◌, arith}
use Rattle.pat_grid_points.proofs.InBlocks.{list_count, list_block, list_run, list_same}
use Rattle.pat_grid_points.proofs.sparse.SparseList.same_until.Goals as goal

-- A `BlockList` owes the same; it reads its starts otherwise. What holds of both stands in `InBlocks`.
pub get-start-requires : goal.get-start-requires
get-start-requires g c =
    let s = c.self.inside in
    list_block s.count s.common s.starts s.blocks c.args.self.now c.self.invariant c.self.view_is c.args.place c.requires.there

pub next_begun-requires : goal.next_begun-requires
next_begun-requires g c =
    let s = c.self.inside in
    list_block s.count s.common s.starts s.blocks c.args.self.now c.self.invariant c.self.view_is c.args.place c.requires.there

pub overflow_mul-result : goal.overflow_mul-result
overflow_mul-result g c =
    let m = c.self.invariant.as_many in
    let b = (c.in-Some.ensures.some).1 in
    let r = c.self.invariant.fits in
    omega arith

pub returns-in-Some-clause-past : goal.returns-in-Some-clause-past
returns-in-Some-clause-past g c =
    let b = (c.in-Some.ensures.some).0 in
    omega arith

pub returns-in-Some-clause-within : goal.returns-in-Some-clause-within
returns-in-Some-clause-within g c =
    let s = c.self.inside in
    let n = list_count s.count s.common s.starts s.blocks c.args.self.now c.self.invariant c.self.view_is in
    let m = c.self.invariant.as_many in
    let b = (c.in-Some.ensures.some).1 in
    omega arith

pub returns-in-Some-clause-same : goal.returns-in-Some-clause-same
returns-in-Some-clause-same g c = λ i d.
    let s = c.self.inside in
    let m = c.self.invariant.as_many in
    let b = (c.in-Some.ensures.some).1 in
    list_same s.count s.common s.starts s.blocks c.args.self.now c.self.invariant c.self.view_is c.args.place (c.in-Some.next * 16) d
    (c.get-start.ensures 0 ∙ c.if-start-ne0.false)
    (λ a l r. c.in-Some.ensures.some.2 a l (omega arith))
    (omega arith) i

pub returns-in-None-clause-past : goal.returns-in-None-clause-past
returns-in-None-clause-past g c =
    let s = c.self.inside in
    let n = list_count s.count s.common s.starts s.blocks c.args.self.now c.self.invariant c.self.view_is in
    let l = c.requires.there in
    omega arith

pub returns-in-None-clause-within : goal.returns-in-None-clause-within
returns-in-None-clause-within g c =
    let s = c.self.inside in
    let n = list_count s.count s.common s.starts s.blocks c.args.self.now c.self.invariant c.self.view_is in
    omega arith

pub returns-in-None-clause-same : goal.returns-in-None-clause-same
returns-in-None-clause-same g c = λ i d.
    let s = c.self.inside in
    list_same s.count s.common s.starts s.blocks c.args.self.now c.self.invariant c.self.view_is c.args.place s.count d
    (c.get-start.ensures 0 ∙ c.if-start-ne0.false)
    (λ a l r. c.in-None.ensures.none a l)
    (omega arith) i

pub overflow_sub-self-inside : goal.overflow_sub-self-inside
overflow_sub-self-inside g c =
    let s = c.self.inside in
    let n = list_count s.count s.common s.starts s.blocks c.args.self.now c.self.invariant c.self.view_is in
    let l = c.requires.there in
    omega arith

pub returns-then-start-ne0-clause-past : goal.returns-then-start-ne0-clause-past
returns-then-start-ne0-clause-past g c =
    let s = c.self.inside in
    let n = list_count s.count s.common s.starts s.blocks c.args.self.now c.self.invariant c.self.view_is in
    let l = c.requires.there in
    let some = c.run_of-run.ensures.some in
    let least = c.min.ensures in
    omega arith

pub returns-then-start-ne0-clause-within : goal.returns-then-start-ne0-clause-within
returns-then-start-ne0-clause-within g c =
    let s = c.self.inside in
    let n = list_count s.count s.common s.starts s.blocks c.args.self.now c.self.invariant c.self.view_is in
    let l = c.requires.there in
    let least = c.min.ensures in
    omega arith

pub returns-then-start-ne0-clause-same : goal.returns-then-start-ne0-clause-same
returns-then-start-ne0-clause-same g c = λ i d from below.
    let s = c.self.inside in
    let n = list_count s.count s.common s.starts s.blocks c.args.self.now c.self.invariant c.self.view_is in
    let l = c.requires.there in
    let least = c.min.ensures in
    list_run s.count s.common s.starts s.blocks c.args.self.now c.self.invariant c.self.view_is c.args.place c.run_of-run.result _ _ (c.get-start.ensures 0) c.as_slice.ensures c.run_of-run.ensures.within c.run_of-run.ensures.same i d from (omega arith) (omega arith)
