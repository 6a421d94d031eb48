use Rattle.std.proofs.Common.{◌≡◌, ◌++◌, drop, map, option_map}
use Rattle.pat_types.specs.Views.{type_view, needs_view}
use Rattle.pat_core.specs.Views.{expr_view}
use Rattle.pat_obligations.specs.Listed.{asked_args}
use Rattle.pat_obligations.proofs.asking.push_arguments.Given as goal

abbrev pub invariant-loop-argument : goal.invariant-loop-argument
invariant-loop-argument l =
    needs_view l.out ++ asked_args (map (option_map type_view) l.rest) (map expr_view (drop l.argument-index l.arguments))
    ≡ needs_view l.initial.out ++ asked_args (map (option_map type_view) l.types) (map expr_view l.arguments)
