use Rattle.std.proofs.Common.{◌≡◌, ◌++◌, drop, map}
use Rattle.pat_core.specs.Views.{interface_view}
use Rattle.pat_core.specs.Spans.{interface_spans}
use Rattle.pat_core.proofs.copying.copy_interfaces.Given as goal

-- what is copied, and what is left, are the whole
abbrev pub invariant-loop-interface : goal.invariant-loop-interface
invariant-loop-interface l = record {
  same : map interface_view l.copied ++ map interface_view (drop l.interface-index l.interface-items) ≡ map interface_view l.interfaces;
  spans : map interface_spans l.copied ++ map interface_spans (drop l.interface-index l.interface-items) ≡ map interface_spans l.interfaces;
}
