use Rattle.std.proofs.Common.{◌≡◌, ◌++◌, drop, map}
use Rattle.pat_core.specs.Views.{expr_view}
use Rattle.pat_core.proofs.copying.copy_expressions.Given as goal

-- what is copied, and what is left, are the whole
abbrev pub invariant-loop-e : goal.invariant-loop-e
invariant-loop-e l =
    map expr_view l.copied ++ map expr_view (drop l.e-index l.e-items) ≡ map expr_view l.es
