-- Findings as the definitions see them.
use Rattle.std.specs.Prelude.{ℕ, option_map}
use Rattle.pat_words_spec.specs.Words.{Word}
use Rattle.pat_bags.specs.Views.{word_of}
use Rattle.pat_inclusion_spec.specs.bounds.Trees.{Bound}
use Rattle.pat_witnesses.specs.declared.search.Refutation.{Refutation}
use Rattle.pat_witnesses.specs.Views.{bound_view}
use Rattle.pat_solve_grids.specs.declared.findings.Findings.{Findings}
use Rattle.pat_solve_grids.specs.Findings as found

abbrev pub refuted_view : (ℕ × Refutation) → ℕ × Word × Bound
refuted_view x = (x.0, word_of x.1.word, bound_view x.1.tree)

abbrev pub findings_view : Findings → found.Findings
findings_view f = record { refuted = option_map refuted_view f.refuted; large = f.is_oversized }
