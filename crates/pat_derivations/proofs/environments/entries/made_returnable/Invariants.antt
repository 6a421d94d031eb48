use Rattle.std.proofs.Common.{◌≡◌, ◌++◌, drop}
use Rattle.pat_types.specs.Views.{needs_view}
use Rattle.pat_derivations.specs.environments.Lists.{returnable_entries}
use Rattle.pat_derivations.proofs.environments.entries.made_returnable.Given as goal

abbrev pub invariant-loop-own : goal.invariant-loop-own
invariant-loop-own l = needs_view l.made ++ returnable_entries (needs_view (drop l.own-index l.env)) ≡ returnable_entries (needs_view l.env)
