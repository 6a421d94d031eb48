use Rattle.std.proofs.Common.{◌≡◌, ◌++◌, drop}
use Rattle.std.specs.List.{flat_map}
use Rattle.pat_history.specs.run_reports.RunText.{output_line}
use Rattle.pat_history.proofs.run_reports.run_text.push_lines.Given as goal

-- what is written, and the lines that are left, are the whole text
abbrev pub invariant-loop-line : goal.invariant-loop-line
invariant-loop-line l = l.text.items ++ flat_map output_line (drop l.line-index l.printed) ≡ l.fn.text.items ++ flat_map output_line l.printed
