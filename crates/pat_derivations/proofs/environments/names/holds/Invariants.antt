use Rattle.std.proofs.Common.{◌≡◌, drop}
use Rattle.pat_semantics_spec.specs.Programs.{is_among}
use Rattle.pat_derivations.proofs.environments.names.holds.Given as goal

abbrev pub invariant-loop-own : goal.invariant-loop-own
invariant-loop-own l = is_among l.name (drop l.own-index l.names) ≡ is_among l.name l.names
