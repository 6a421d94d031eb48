-- A result against a pattern or values and the limits.
use Rattle.std.specs.Prelude.{◌≡◌, Bool, true, false, Result, Ok, Err}
use Rattle.pat_words_spec.specs.Patterns.{Pat}
use Rattle.pat_solve_bounded.specs.declared.measured.Measured.{Measured}
use Rattle.pat_solve_bounded.specs.Views.{measured_view}
use Rattle.pat_solve_elimination.specs.declared.error.RoundError.{RoundError}
use Rattle.pat_solve_elimination.specs.declared.error.RoundError.TheVariants.{TooLarge, NoMemory}

-- the pattern, where all that is made is within the limits, and otherwise that it is too large
abbrev pub Gives : Result Measured RoundError → Bool → Pat → Type 0
Gives (Ok m) fits e = (measured_view m ≡ e) × (fits ≡ true)
Gives (Err TooLarge) fits e = fits ≡ false
Gives (Err NoMemory) fits e = Unit {0}
