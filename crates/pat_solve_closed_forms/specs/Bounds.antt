-- How many sets the closed form of a pattern has at most.
use Rattle.std.specs.Prelude.{◌≡◌, ◌+◌, ◌≤◌, ◌&&◌, true, length}
use Rattle.std.specs.List.{AllByRecursion}
use Rattle.pat_words_spec.specs.Patterns.{Pat}
use Rattle.pat_inclusion_spec.specs.Counts.{most_tags}
use Rattle.pat_inclusion_spec.specs.ClosedForms.{sets_of, lists_are_short}
use Rattle.pat_linear.specs.WordSets.{IsWord}
use Rattle.pat_limits.specs.Limits.{most_sets}
use Rattle.pat_solve_closed_forms.specs.declared.bounds.SetBound.{SetBound}

-- the pattern's sets are no more than so many, and words where the bound says so, and no list on the way to them is too long
pub record IsBound (b : SetBound) (e : Pat) : Type 0 where
  pub few : length (sets_of most_tags e) ≤ b.sets
  pub within : b.sets ≤ most_sets
  pub short : lists_are_short most_tags e ≡ true
  pub words : b.are_words ≡ true → AllByRecursion IsWord (sets_of most_tags e)

-- the bound of others has become one of theirs and the pattern's sets together
pub record Adds (before after : SetBound) (e : Pat) : Type 0 where
  pub own : SetBound
  pub bound : IsBound own e
  pub sets : after.sets ≡ before.sets + own.sets
  pub words : after.are_words ≡ (before.are_words && own.are_words)
  pub within : after.sets ≤ most_sets

-- the patterns are the same, and their sets are added
abbrev pub SameAdds : SetBound → SetBound → Pat → Pat → Type 0
SameAdds before after e f = (e ≡ f) × Adds before after f
