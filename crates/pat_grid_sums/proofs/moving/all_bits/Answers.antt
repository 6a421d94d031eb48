use Rattle.std.proofs.Common.{get_or, refl}
use Rattle.pat_grid_sums.proofs.Shifting.{bits_more}
use Rattle.pat_grid_sums.proofs.moving.all_bits.Goals as goal

pub loop-word-preserved : goal.loop-word-preserved
loop-word-preserved c =
    bits_more c.args.words.now c.loop-word.word c.loop-word.bits (get_or c.args.words.now c.loop-word.word 0) _ refl refl c.loop-word.invariant
