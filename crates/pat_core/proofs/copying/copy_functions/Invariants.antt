use Rattle.std.proofs.Common.{◌≡◌, ◌++◌, drop, map}
use Rattle.pat_core.specs.Views.{function_view}
use Rattle.pat_core.specs.Spans.{function_spans}
use Rattle.pat_core.proofs.copying.copy_functions.Given as goal

-- what is copied, and what is left, are the whole
abbrev pub invariant-loop-function : goal.invariant-loop-function
invariant-loop-function l = record {
  same : map function_view l.copied ++ map function_view (drop l.function-index l.function-items) ≡ map function_view l.functions;
  spans : map function_spans l.copied ++ map function_spans (drop l.function-index l.function-items) ≡ map function_spans l.functions;
}
