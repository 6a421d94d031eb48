-- What is still to be taken apart is no larger than the whole.
use Rattle.std.proofs.Common.{◌≤◌}
use Rattle.pat_tree.proofs.term.Term.TheLaws.{the_size}
use Rattle.pat_tree.proofs.+drop_term.Given as goal

abbrev pub invariant-term::Term::drop-loop-body : goal.invariant-term::Term::drop-loop-body
invariant-term::Term::drop-loop-body l = the_size l.self ≤ the_size l.initial.self
