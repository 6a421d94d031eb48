use Rattle.pat_bags.specs.Views.{word_of}
use Rattle.pat_refutations.proofs.CutTwice.{cut_above}
use Rattle.pat_refutations.proofs.membership.cutting.cut_above.Goals as goal

pub returns-then-most-lt4294967295 : goal.returns-then-most-lt4294967295
returns-then-most-lt4294967295 c = cut_above c.args.most (word_of c.args.word.now) _ c.cut.ensures
