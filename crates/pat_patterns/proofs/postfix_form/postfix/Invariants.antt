use Rattle.std.proofs.Common.{◌≡◌, []}
use Rattle.pat_patterns.specs.Views.{pattern_view}
use Rattle.pat_patterns.specs.postfix_form.Postfix.{nodes, postfix_onto, postfix_all}
use Rattle.pat_patterns.specs.postfix_form.Views.{pointed}
use Rattle.pat_patterns.proofs.postfix_form.postfix.Given as goal

abbrev pub invariant-loop-next : goal.invariant-loop-next
invariant-loop-next l = postfix_all (pointed l.waiting) l.heads ≡ postfix_onto (pattern_view l.p) []

abbrev pub decreases-loop-next : goal.decreases-loop-next
decreases-loop-next l = nodes (pointed l.waiting)
