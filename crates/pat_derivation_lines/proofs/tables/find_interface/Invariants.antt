use Rattle.std.proofs.Common.{◌≡◌, ◌+◌, drop, map}
use Rattle.std.specs.Prelude.{option_map}
use Rattle.pat_core.specs.Views.{interface_view}
use Rattle.pat_derivation_text_spec.specs.LineReading.{found}
use Rattle.pat_derivation_lines.proofs.tables.find_interface.Given as goal

abbrev pub invariant-loop-i : goal.invariant-loop-i
invariant-loop-i l = option_map (λ r. (l.i + r.0, r.1)) (found l.name (map interface_view (drop l.i l.program.interfaces))) ≡ found l.name (map interface_view l.program.interfaces)
