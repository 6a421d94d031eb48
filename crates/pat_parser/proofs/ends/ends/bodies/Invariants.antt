use Rattle.std.proofs.Common.{◌≡◌, length}
use Rattle.pat_parser_spec.specs.Machine as m
use Rattle.pat_tree.specs.Views.{term_view}
use Rattle.pat_parser.specs.states.Views.{stack_view}
use Rattle.pat_parser.proofs.ends.ends.bodies.Given as goal

-- what ends here is what ended at first
abbrev pub invariant-loop-frame : goal.invariant-loop-frame
invariant-loop-frame l = m.bodies (stack_view l.stack) (term_view l.term.value) ≡ m.bodies (stack_view l.fn.stack) (term_view l.fn.term.value)

abbrev pub decreases-loop-frame : goal.decreases-loop-frame
decreases-loop-frame l = length l.stack
