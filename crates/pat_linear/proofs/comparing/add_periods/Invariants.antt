use Rattle.std.proofs.Common.{◌≡◌, drop}
use Rattle.pat_inclusion_spec.specs.Counts.{most_tags}
use Rattle.pat_inclusion_spec.specs.ClosedForms.{add_periods as periods_added}
use Rattle.pat_linear.specs.Views.{words_of}
use Rattle.pat_linear.proofs.comparing.add_periods.Given as goal

abbrev pub invariant-loop-period : goal.invariant-loop-period
invariant-loop-period l =
    periods_added most_tags (words_of l.periods) (words_of (drop l.period-index l.more))
    ≡ periods_added most_tags (words_of l.initial.periods) (words_of l.more)
