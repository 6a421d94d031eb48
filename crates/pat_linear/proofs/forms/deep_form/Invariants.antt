use Rattle.std.proofs.Common.{length}
use Rattle.pat_patterns.specs.Views.{pattern_view}
use Rattle.pat_inclusion_spec.specs.Counts.{most_tags}
use Rattle.pat_linear.specs.Views.{forms_view}
use Rattle.pat_linear.proofs.Standing.{Standing}
use Rattle.pat_linear.proofs.forms.deep_form.Given as goal

abbrev pub invariant-loop-head : goal.invariant-loop-head
invariant-loop-head l = Standing most_tags (pattern_view l.p) l.heads (forms_view l.done)

abbrev pub decreases-loop-head : goal.decreases-loop-head
decreases-loop-head l = length l.heads
