use Rattle.std.proofs.Common.{◌≡◌, ◌++◌, map, drop}
use Rattle.pat_core.specs.Views.{expr_view as core_view}
use Rattle.pat_resolver_spec.specs.Numbering.{expr_of}
use Rattle.pat_resolver_heads.specs.tables.Views.{scope_view}
use Rattle.pat_tree.specs.Views.{expr_view}
use Rattle.pat_resolver.proofs.numbering.expressions.number_args.Given as goal

abbrev pub invariant-loop-arg : goal.invariant-loop-arg
invariant-loop-arg l =
    map core_view l.numbered ++ map (expr_of (scope_view l.scope)) (map expr_view (drop l.arg-index l.arg-items))
    ≡ map (expr_of (scope_view l.scope)) (map expr_view l.arg-items)
