use Rattle.std.proofs.Common.{◌≡◌, ◌+◌, ◌++◌, drop, map}
use Rattle.pat_core.specs.Views.{program_view}
use Rattle.pat_derivations.specs.Views.{vars_view}
use Rattle.pat_derivation_text_spec.specs.DerivationText.{var_line, numbered, text_of_lines}
use Rattle.pat_deriv.proofs.lines.put_vars.Given as goal

abbrev pub invariant-loop-interface : goal.invariant-loop-interface
invariant-loop-interface l = record {
  whole : l.out.items ++ text_of_lines (numbered (var_line (program_view l.program)) l.number (vars_view (drop l.interface-index l.vars))) ≡ l.initial.out.items ++ text_of_lines (numbered (var_line (program_view l.program)) 1 (vars_view l.vars));
  counted : l.number ≡ 1 + l.interface-index;
}
