-- Words that are cut above a number.
use Rattle.std.specs.Prelude.{◌≡◌, ℕ, ◌<◌}
use Rattle.pat_words_spec.specs.Words.{Word}
use Rattle.pat_words_spec.specs.Cuts.{cut_at}

-- both words have the same cut at some count above the number
abbrev pub IsCutAbove : ℕ → Word → Word → Type 0
IsCutAbove most w short = (k : ℕ) × (most < k) × (cut_at k short ≡ cut_at k w)
