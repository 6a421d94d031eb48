use Rattle.std.proofs.Common.{[], ◌∙◌}
use Rattle.std.proofs.lemmas.List.{get_or_default}
use Rattle.pat_grid_sums.specs.Sets.{IsAdded}
use Rattle.pat_grid_sums.proofs.Putting.{puts_more}
use Rattle.pat_grid_sums.proofs.Summing.{added_if}
use Rattle.pat_grid_sums.proofs.sums.add_word.Goals as goal

pub loop-bit-preserved : goal.loop-bit-preserved
loop-bit-preserved c =
    let a = c.args in
    puts_more (IsAdded a.ones.now a.word a.moved.now) c.loop-bit.bit a.words.now c.loop-bit.words c.add_if.new.words c.loop-bit.invariant
    (added_if a.ones.now a.word a.moved.now c.loop-bit.bit c.has.result c.as_slice.result.now c.loop-bit.words c.add_if.new.words c.has.ensures (c.as_slice.ensures ∙ c.index-moved-bit.is ∙ get_or_default a.moved.now c.loop-bit.bit c.index-moved-bit.result [] c.loop-bit-test.true) c.add_if.ensures)
