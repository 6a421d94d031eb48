use Rattle.std.proofs.Common.{get_or, refl}
use Rattle.pat_grid_sums.specs.Sets.{IsShifted}
use Rattle.pat_grid_sums.proofs.Putting.{puts_more}
use Rattle.pat_grid_sums.proofs.Shifting.{word_shifted}
use Rattle.pat_grid_sums.proofs.moving.move_by.Goals as goal

pub loop-word-preserved : goal.loop-word-preserved
loop-word-preserved c =
    let a = c.args in
    puts_more (IsShifted a.others.now a.mask a.by) c.loop-word.word a.moved.now c.loop-word.moved c.join.new.words c.loop-word.invariant
    (word_shifted a.others.now a.mask a.by c.loop-word.word (get_or a.others.now c.loop-word.word 0) _ c.loop-word.moved c.join.new.words refl refl c.requires.room c.join.ensures)
