use Rattle.std.proofs.Common.{◌≡◌, drop}
use Rattle.pat_type_schemes_spec.specs.NodeTypes.{need_of}
use Rattle.pat_types.specs.Views.{needs_view}
use Rattle.pat_derivations.proofs.environments.entries.find.Given as goal

abbrev pub invariant-loop-own : goal.invariant-loop-own
invariant-loop-own l = need_of (needs_view (drop l.own-index l.env)) l.variable ≡ need_of (needs_view l.env) l.variable
