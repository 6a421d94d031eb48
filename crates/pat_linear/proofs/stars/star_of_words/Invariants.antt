use Rattle.std.proofs.Common.{◌≡◌, [], drop, map}
use Rattle.pat_inclusion_spec.specs.Counts.{most_tags}
use Rattle.pat_inclusion_spec.specs.ClosedForms.{add_periods}
use Rattle.pat_linear.specs.Views.{words_of, sets_view}
use Rattle.pat_linear.specs.WordSets.{base_of}
use Rattle.pat_linear.proofs.stars.star_of_words.Given as goal

abbrev pub invariant-loop-set : goal.invariant-loop-set
invariant-loop-set l =
    add_periods most_tags (words_of l.periods) (map base_of (sets_view (drop l.set-index l.sets)))
    ≡ add_periods most_tags [] (map base_of (sets_view l.sets))
