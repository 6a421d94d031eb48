use Rattle.std.proofs.Common.{◌+◌, drop, get_or, refl}
use Rattle.pat_bags.specs.Views.{word_of}
use Rattle.pat_refutations.specs.membership.Listings.{HasWord, Only, Reached, Within}
use Rattle.pat_refutations.proofs.Rests.{turn, has_more, has_at, steps_first, nowhere}
use Rattle.pat_refutations.proofs.membership.word_lists.with_steps.Goals as goal

pub push_steps-requires-clause-start : goal.push_steps-requires-clause-start
push_steps-requires-clause-start c =
    let starts = c.args.starts.now in
    let i = c.loop-start.start-index in
    let u = word_of (get_or starts i nowhere) in
    c.requires.starts u (has_at starts i nowhere u c.loop-start-test.true refl)

pub loop-start-preserved : goal.loop-start-preserved
loop-start-preserved c =
    let limit = word_of c.args.limit.now in
    let starts = c.args.starts.now in
    let step = word_of c.args.step.now in
    let i = c.loop-start.start-index in
    let u = word_of (get_or starts i nowhere) in
    turn (HasWord c.loop-start.words) (HasWord c.push_steps.new.words) (Within limit (Reached (Only u) step))
    (Within limit (Reached (HasWord (drop i starts)) step)) (Within limit (Reached (HasWord (drop (i + 1) starts)) step)) (Within limit (Reached (HasWord starts) step))
    c.loop-start.invariant c.in_ok-push_steps.ensures
    (steps_first limit step (Only u) (HasWord (drop i starts)) (HasWord (drop (i + 1) starts)) (has_more starts i nowhere c.loop-start-test.true))
