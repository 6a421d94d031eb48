use Rattle.pat_patterns.specs.Views.{pattern_view}
use Rattle.pat_certificate_checks.proofs.Plainly.{have_values}
use Rattle.pat_solve_derivation.specs.certificates.Making.{scope_in}
use Rattle.pat_solve_derivation.proofs.certificates.adding.certificate.Goals as goal

pub is_trivial-requires-clause-left : goal.is_trivial-requires-clause-left
is_trivial-requires-clause-left c =
    have_values (scope_in c.args.solved.now) c.args.interface (pattern_view c.args.left.now) c.args.solved.now.plain.now c.requires.solved.plain c.requires.left

pub is_trivial-requires-clause-right : goal.is_trivial-requires-clause-right
is_trivial-requires-clause-right c =
    have_values (scope_in c.args.solved.now) c.args.interface (pattern_view c.args.right.now) c.args.solved.now.plain.now c.requires.solved.plain c.requires.right
