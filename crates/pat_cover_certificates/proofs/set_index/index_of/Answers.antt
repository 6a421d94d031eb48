use Rattle.std.proofs.Common.{arith, subst}
use Rattle.pat_cover_certificates.specs.Indexes.{AddsSet}
use Rattle.pat_cover_certificates.proofs.Indexing.{got_item, set_more}
use Rattle.pat_cover_certificates.proofs.set_index.index_of.Goals as goal

pub loop-set-preserved : goal.loop-set-preserved
loop-set-preserved c =
    let sets = c.args.sets.now in
    let r = c.set-item.result in
    let old = c.loop-set.index in
    let new = c.add_set.new.index in
    let here = c.loop-set.invariant.place in
    record {
      place = omega arith;
      index = set_more sets c.loop-set.set-index r old.by_base.entries new.by_base.entries old.others new.others
          (got_item sets c.loop-set.set-index r r c.loop-set-test.true c.set-item.is)
          (subst (λ p. AddsSet r p old.by_base.entries old.others new.by_base.entries new.others) here c.in_ok-add_set.ensures)
          c.loop-set.invariant.index;
    }
