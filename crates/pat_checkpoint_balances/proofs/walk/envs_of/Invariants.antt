use Rattle.std.proofs.Common.{◌≡◌, ◌++◌, map, drop}
use Rattle.pat_derivations.specs.Views.{lines_view}
use Rattle.pat_checkpoint_balances.specs.Tables.{needs_of}
use Rattle.pat_checkpoint_balances.proofs.walk.envs_of.Given as goal

abbrev pub invariant-loop-line : goal.invariant-loop-line
invariant-loop-line l = needs_of l.envs ++ map (λ l. l.of.needs) (lines_view (drop l.line-index l.derivation.nodes)) ≡ map (λ l. l.of.needs) (lines_view l.derivation.nodes)
