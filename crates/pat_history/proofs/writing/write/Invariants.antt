use Rattle.std.proofs.Common.{◌≡◌, ◌++◌, drop, map}
use Rattle.std.specs.List.{flat_map}
use Rattle.pat_semantics_spec.specs.Runs.{IsHistory}
use Rattle.pat_reduce.specs.Views.{entry_view}
use Rattle.pat_history_spec.specs.HistoryText.{entry_line, history_text}
use Rattle.pat_history.proofs.writing.write.Given as goal

-- what is written, and the lines that are left, are the whole text
abbrev pub invariant-loop-entry : goal.invariant-loop-entry
invariant-loop-entry l = record {
  whole : l.text.items ++ flat_map entry_line (map entry_view (drop l.entry-index l.entries)) ≡ history_text (map entry_view l.entries);
  shared : IsHistory (map entry_view (drop l.entry-index l.entries));
}
