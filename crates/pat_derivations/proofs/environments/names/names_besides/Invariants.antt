use Rattle.std.proofs.Common.{◌≡◌, ◌++◌, drop}
use Rattle.std.specs.Map.{keys_of}
use Rattle.pat_derivation_spec.specs.Conditions.{but_not}
use Rattle.pat_types.specs.Views.{needs_view}
use Rattle.pat_derivations.proofs.environments.names.names_besides.Given as goal

abbrev pub invariant-loop-own : goal.invariant-loop-own
invariant-loop-own l = l.rest ++ but_not l.name (keys_of (needs_view (drop l.own-index l.env))) ≡ but_not l.name (keys_of (needs_view l.env))
