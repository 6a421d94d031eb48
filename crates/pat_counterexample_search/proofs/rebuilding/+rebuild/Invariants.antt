use Rattle.pat_grid.specs.tables.Views.{setting_of}
use Rattle.pat_counterexample_search.specs.Choices.{entry_of}
use Rattle.pat_counterexample_search.proofs.rebuilding.+rebuild.Given as goal

abbrev pub decreases-rebuild : goal.decreases-rebuild
decreases-rebuild l = entry_of (setting_of l.board.now) l.entries.now l.place
