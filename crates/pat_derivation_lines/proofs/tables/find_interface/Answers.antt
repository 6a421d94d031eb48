use Rattle.std.proofs.Common.{rules, map}
use Rattle.pat_core.specs.Views.{interface_view}
use Rattle.pat_derivation_text_spec.specs.LineReading.{found}
use Rattle.pat_derivation_lines.proofs.Names.{found_at}
use Rattle.pat_derivation_lines.proofs.tables.find_interface.Goals as goal

pub returns-then-eq : goal.returns-then-eq
returns-then-eq c =
    found_at c.args.name.now c.args.program.now.interfaces c.as_slice-interface-items.result.now c.loop-i.i c.interface-item.result _ (found c.args.name.now (map interface_view c.args.program.now.interfaces)) (search rules) (search rules) c.interface-item.is (search rules) c.loop-i.invariant
