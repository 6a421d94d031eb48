use Rattle.std.proofs.Common.{◌≡◌, ◌++◌, drop, map}
use Rattle.pat_types.specs.Views.{needs_view}
use Rattle.pat_core.specs.Views.{sort_view}
use Rattle.pat_obligations.specs.Listed.{named_payloads}
use Rattle.pat_obligations.proofs.asking.push_payloads.Given as goal

abbrev pub invariant-loop-name : goal.invariant-loop-name
invariant-loop-name l =
    needs_view l.out ++ named_payloads (map sort_view l.rest) (drop l.name-index l.names)
    ≡ needs_view l.initial.out ++ named_payloads (map sort_view l.sorts) l.names
