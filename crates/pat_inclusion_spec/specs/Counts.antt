-- Words of so many tags: compared count by count, and written as lists of counts.
use Rattle.std.specs.Prelude.{◌≡◌, ℕ, zero, suc, ◌*◌, ◌≤◌, Bool, true, ◌&&◌, nat_eq, List, slice_index}
use Rattle.std.specs.List.{list_any}
use Rattle.pat_words_spec.specs.Words.{Word, no_word}
use Rattle.pat_words_spec.specs.Tags.{HasTagsBelow}

-- the two words have the same counts of the first n tags
abbrev pub same_below : ℕ → Word → Word → Bool
same_below zero u v = true
same_below (suc n) u v = same_below n u v && nat_eq (u n) (v n)

-- the word has none of the first n tags
abbrev pub is_empty_below : ℕ → Word → Bool
is_empty_below n w = same_below n w no_word

-- one of the words has the same counts of the first n tags
abbrev pub has_word : ℕ → List Word → Word → Bool
has_word n ws w = list_any (same_below n w) ws

-- so many times the word
abbrev pub scaled : ℕ → Word → Word
scaled c u t = c * u t

-- the word of a list of counts: none of the tags beyond its end
abbrev pub counted : List ℕ → Word
counted counts t = slice_index counts t

-- the most tags that an interface may have; it doesn't unfold by itself, so that a comparison by so many tags stays short in goals
unfoldable pub most_tags : ℕ
most_tags = 32
