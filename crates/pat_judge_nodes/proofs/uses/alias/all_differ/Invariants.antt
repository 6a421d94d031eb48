use Rattle.std.proofs.Common.{◌≡◌, length}
use Rattle.pat_derivation_spec.specs.Same.{all_differ}
use Rattle.pat_judge_nodes.proofs.uses.alias.all_differ.Given as goal

abbrev pub decreases-loop-name : goal.decreases-loop-name
decreases-loop-name l = length l.rest

abbrev pub invariant-loop-name : goal.invariant-loop-name
invariant-loop-name l = all_differ l.rest ≡ all_differ l.names
