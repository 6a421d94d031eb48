use Rattle.std.proofs.Common.{◌≡◌}
use Rattle.pat_words_spec.specs.Cuts.{cut_at}
use Rattle.pat_bags.specs.Views.{word_of}
use Rattle.pat_inclusion_spec.specs.bounds.Numbers.{number_of}
use Rattle.pat_grid_points.proofs.numbers.number_of.Given as goal

abbrev pub invariant-loop-tag : goal.invariant-loop-tag
invariant-loop-tag l = l.number ≡ number_of l.k l.tag (cut_at l.k (word_of l.word))
