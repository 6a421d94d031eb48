use Rattle.std.proofs.Common.{◌≡◌, ◌<◌, ◌+◌, length, map}
use Rattle.pat_reduce.specs.Views.{entry_view}
use Rattle.pat_history_spec.specs.Reading.{ReadsLines}
use Rattle.pat_history.proofs.reading.read_lines.Given as goal

-- the lines up to the rest are read as the entries
abbrev pub invariant-loop-rest : goal.invariant-loop-rest
invariant-loop-rest l = record {
  reads : ReadsLines l.lines (map entry_view l.entries.items) l.rest;
  within : length l.rest < length l.text + 1;
}

abbrev pub decreases-loop-rest : goal.decreases-loop-rest
decreases-loop-rest l = length l.rest
