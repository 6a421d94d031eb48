use Rattle.pat_patterns.specs.Views.{pattern_view}
use Rattle.pat_core.specs.Views.{program_view}
use Rattle.pat_types.specs.Views.{needs_view}
use Rattle.pat_derivations.specs.Views.{derivation_view}
use Rattle.pat_obligations.proofs.Turns.{clause_at}
use Rattle.pat_obligations.proofs.of_terms.terms.clauses.Goals as goal

pub loop-receive-preserved : goal.loop-receive-preserved
loop-receive-preserved c =
    clause_at (program_view c.args.program.now) (derivation_view c.args.derivation.now) (needs_view c.args.env.now) c.args.guarded c.args.interface (pattern_view c.args.pattern.now) _ _ _ _ _ _ _ _ c.loop-receive.invariant c.loop-receive-test.true c.receive-item.is c.in_ok-waiting.ensures.next c.in_ok-waiting.ensures.demands
