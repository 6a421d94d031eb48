use Rattle.std.proofs.Common.{◌≡◌, ◌++◌, drop, map}
use Rattle.pat_core.specs.Views.{sort_view}
use Rattle.pat_core.specs.Spans.{sort_spans}
use Rattle.pat_core.proofs.copying.copy_sorts.Given as goal

-- what is copied, and what is left, are the whole
abbrev pub invariant-loop-sort : goal.invariant-loop-sort
invariant-loop-sort l = record {
  same : map sort_view l.copied ++ map sort_view (drop l.sort-index l.sort-items) ≡ map sort_view l.sorts;
  spans : map sort_spans l.copied ++ map sort_spans (drop l.sort-index l.sort-items) ≡ map sort_spans l.sorts;
}
