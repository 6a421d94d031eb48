use Rattle.std.proofs.Common.{rules}
use Rattle.pat_linear.proofs.StarOfWords.{word_turn}
use Rattle.pat_linear.proofs.forms.are_words.Goals as goal

pub loop-set-preserved : goal.loop-set-preserved
loop-set-preserved c =
    word_turn c.args.sets.now c.loop-set.set-index c.set-item.result c.loop-set.invariant c.loop-set-test.true c.set-item.is (search rules)
