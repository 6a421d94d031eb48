use Rattle.std.proofs.Common.{◌≡◌, ◌++◌, drop}
use Rattle.std.specs.Map.{keys_of}
use Rattle.pat_derivations.specs.environments.Lists.{others_in}
use Rattle.pat_types.specs.Views.{needs_view}
use Rattle.pat_derivations.proofs.environments.names.others_of.Given as goal

abbrev pub invariant-loop-name : goal.invariant-loop-name
invariant-loop-name l = l.rest ++ others_in l.names (keys_of (needs_view (drop l.name-index l.env))) ≡ others_in l.names (keys_of (needs_view l.env))
