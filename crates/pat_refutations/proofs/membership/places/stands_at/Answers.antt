use Rattle.pat_bags.specs.Views.{word_of}
use Rattle.pat_refutations.proofs.Rests.{has_at, nowhere}
use Rattle.pat_refutations.proofs.membership.places.stands_at.Goals as goal

pub returns-then-place-words : goal.returns-then-place-words
returns-then-place-words c h =
    has_at c.args.words.now c.args.place nowhere (word_of c.args.word.now) c.if-place-words.true (c.is_same.ensures.0 h)
