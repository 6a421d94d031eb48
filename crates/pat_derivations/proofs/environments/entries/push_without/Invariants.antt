use Rattle.std.proofs.Common.{◌≡◌, ◌++◌, drop}
use Rattle.pat_types.specs.Views.{needs_view}
use Rattle.pat_derivations.specs.environments.Lists.{without_entry}
use Rattle.pat_derivations.proofs.environments.entries.push_without.Given as goal

abbrev pub invariant-loop-own : goal.invariant-loop-own
invariant-loop-own l = needs_view l.out ++ without_entry l.variable (needs_view (drop l.own-index l.env)) ≡ needs_view l.initial.out ++ without_entry l.variable (needs_view l.env)
