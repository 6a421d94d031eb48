use Rattle.pat_derivation_spec.specs.Derivations.{scope_of}
use Rattle.pat_patterns.specs.Views.{pattern_view}
use Rattle.pat_core.specs.Views.{program_view}
use Rattle.pat_derivations.specs.Views.{derivation_view}
use Rattle.pat_certificate_checks.proofs.Plainly.{have_values}
use Rattle.pat_certificate_checks.proofs.single.included.Goals as goal

pub is_trivial-requires-clause-left : goal.is_trivial-requires-clause-left
is_trivial-requires-clause-left c =
    have_values (scope_of (program_view c.args.program.now) (derivation_view c.args.derivation.now)) c.args.interface (pattern_view c.args.left.now) c.args.plain.now c.requires.plain c.requires.left

pub is_trivial-requires-clause-right : goal.is_trivial-requires-clause-right
is_trivial-requires-clause-right c =
    have_values (scope_of (program_view c.args.program.now) (derivation_view c.args.derivation.now)) c.args.interface (pattern_view c.args.right.now) c.args.plain.now c.requires.plain c.requires.right
