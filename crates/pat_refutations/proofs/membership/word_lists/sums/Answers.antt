use Rattle.std.proofs.Common.{◌+◌, drop, get_or}
use Rattle.pat_bags.specs.Views.{word_of}
use Rattle.pat_refutations.specs.membership.Listings.{HasWord, Only, Within}
use Rattle.pat_words_spec.specs.Languages.{SumOf}
use Rattle.pat_refutations.proofs.Rests.{turn, has_more, sums_first, nowhere}
use Rattle.pat_refutations.proofs.membership.word_lists.sums.Goals as goal

pub loop-word-preserved : goal.loop-word-preserved
loop-word-preserved c =
    let limit = word_of c.args.limit.now in
    let left = c.args.left.now in
    let right = HasWord c.args.right.now in
    let i = c.loop-word.word-index in
    let u = word_of (get_or left i nowhere) in
    turn (HasWord c.loop-word.words) (HasWord c.push_sums.new.words) (Within limit (SumOf (Only u) right))
    (Within limit (SumOf (HasWord (drop i left)) right)) (Within limit (SumOf (HasWord (drop (i + 1) left)) right)) (Within limit (SumOf (HasWord left) right))
    c.loop-word.invariant c.in_ok-push_sums.ensures
    (sums_first limit right (Only u) (HasWord (drop i left)) (HasWord (drop (i + 1) left)) (has_more left i nowhere c.loop-word-test.true))
