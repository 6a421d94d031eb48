use Rattle.std.proofs.Common.{◌≡◌, ◌++◌, drop}
use Rattle.std.specs.Map.{keys_of}
use Rattle.pat_types.specs.Views.{needs_view}
use Rattle.pat_derivations.proofs.environments.entries.names_of.Given as goal

abbrev pub invariant-loop-own : goal.invariant-loop-own
invariant-loop-own l = l.names ++ keys_of (needs_view (drop l.own-index l.env)) ≡ keys_of (needs_view l.env)
