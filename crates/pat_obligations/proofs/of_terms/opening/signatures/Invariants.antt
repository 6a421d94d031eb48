use Rattle.std.proofs.Common.{◌≡◌, ◌++◌, map, drop}
use Rattle.pat_core.specs.Views.{function_view}
use Rattle.pat_obligations.specs.Views.{signature_view}
use Rattle.pat_obligations.specs.of_terms.Opened.{opened_from}
use Rattle.pat_obligations.proofs.of_terms.opening.signatures.Given as goal

-- what is made, and what the functions that are left give, are the whole
abbrev pub invariant-loop-function : goal.invariant-loop-function
invariant-loop-function l = record {
  all : map signature_view l.all ++ opened_from l.next (map function_view (drop l.function-index l.functions)) ≡ opened_from 1 (map function_view l.functions);
}
