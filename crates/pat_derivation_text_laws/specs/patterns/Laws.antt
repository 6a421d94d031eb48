-- The laws of the texts of patterns.
use Rattle.std.specs.Prelude.{◌≡◌, ◌≤◌, ◌<◌, ℕ, true, List, [], length, Some, slice_index_or}
use Rattle.std.specs.Fmt.{decimal}
use Rattle.pat_words_spec.specs.Patterns.{Pat}
use Rattle.pat_texts_spec.specs.Numbers.{is_number, read_number}
use Rattle.pat_derivation_text_spec.specs.patterns.PatternText.{pat_text, is_readable, is_plain_name}
use Rattle.pat_derivation_text_spec.specs.patterns.PatternReading.{place_of, read_pattern}

-- names that can stand in patterns, each found at its own place
pub record AreNames (names : List (List ℕ)) : Type 0 where
  pub plain : (k : ℕ) → k < length names → is_plain_name (slice_index_or names k []) ≡ true
  pub found : (k : ℕ) → k < length names → place_of (slice_index_or names k []) names ≡ Some k
  pub few : length names ≤ 256

-- what is read is the pattern's text, and a reader takes the pattern
abbrev pub PatternIsSpelled : Type 0
PatternIsSpelled = (names : List (List ℕ)) (bytes : List ℕ) (p : Pat) → read_pattern names bytes ≡ Some p → (bytes ≡ pat_text names p) × (is_readable (length names) p ≡ true)

-- the text of a pattern that a reader takes is read as this pattern; so no other has this text
abbrev pub PatternIsRead : Type 0
PatternIsRead = (names : List (List ℕ)) → AreNames names → (p : Pat) → is_readable (length names) p ≡ true → read_pattern names (pat_text names p) ≡ Some p

-- the same of numbers of 32 bits
abbrev pub NumberIsSpelled : Type 0
NumberIsSpelled = (bytes : List ℕ) (n : ℕ) → read_number bytes ≡ Some n → (bytes ≡ decimal n) × (is_number n ≡ true)

abbrev pub NumberIsRead : Type 0
NumberIsRead = (n : ℕ) → is_number n ≡ true → read_number (decimal n) ≡ Some n
