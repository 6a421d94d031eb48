use Rattle.std.proofs.Common.{◌≡◌, true}
use Rattle.pat_words_spec.specs.Tags.{tags_below}
use Rattle.pat_words_spec.specs.Sizes.{size_of}
use Rattle.pat_patterns.specs.Views.{pattern_view}
use Rattle.pat_inclusion_spec.specs.Counts.{most_tags}
use Rattle.pat_linear.specs.Views.{set_view, sets_view}
use Rattle.pat_linear.specs.Along.{IsAlong}
use Rattle.pat_linear.proofs.along.form_along.Given as goal

abbrev pub invariant-loop-rest : goal.invariant-loop-rest
invariant-loop-rest l = record {
  walked : IsAlong (pattern_view l.p) (pattern_view l.rest) (set_view l.factor) (sets_view l.done);
  tags : tags_below most_tags (pattern_view l.rest) ≡ true;
}

abbrev pub decreases-loop-rest : goal.decreases-loop-rest
decreases-loop-rest l = size_of (pattern_view l.rest)
