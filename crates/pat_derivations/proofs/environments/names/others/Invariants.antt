use Rattle.std.proofs.Common.{◌≡◌, ◌++◌, drop}
use Rattle.pat_derivations.specs.environments.Lists.{others_in}
use Rattle.pat_derivations.proofs.environments.names.others.Given as goal

abbrev pub invariant-loop-name : goal.invariant-loop-name
invariant-loop-name l = l.rest ++ others_in l.names (drop l.name-index l.more) ≡ others_in l.names l.more
