use Rattle.std.proofs.Common.{drop}
use Rattle.pat_refutations.proofs.Rests.{done, none_left}
use Rattle.pat_refutations.specs.membership.Listings.{HasWord}
use Rattle.pat_words_spec.specs.Languages.{EitherOf}
use Rattle.pat_refutations.proofs.membership.word_lists.push_all.Goals as goal

pub returns : goal.returns
returns c =
    done (HasWord c.loop-word.words) (HasWord (drop c.loop-word.word-index c.args.more.now)) (EitherOf (HasWord c.args.words.now) (HasWord c.args.more.now)) c.loop-word.invariant
    (none_left c.args.more.now c.loop-word.word-index c.loop-word-test.false)
