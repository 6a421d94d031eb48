use Rattle.std.proofs.Common.{◌≡◌, ◌++◌, drop, map, option_map}
use Rattle.pat_types.specs.Views.{type_view, needs_view}
use Rattle.pat_obligations.specs.Listed.{param_entries}
use Rattle.pat_obligations.proofs.asking.params_given.Given as goal

abbrev pub invariant-loop-of : goal.invariant-loop-of
invariant-loop-of l =
    needs_view l.given ++ param_entries l.variable (map (option_map type_view) (drop l.of-index l.types))
    ≡ param_entries 0 (map (option_map type_view) l.types)
