-- A bag seen as a word.
use Rattle.std.specs.Prelude.{ℕ, List, slice_index}
use Rattle.pat_words_spec.specs.Words.{Word}
use Rattle.pat_bags.specs.declared.Bag.{Bag}

-- the word of a list of counts: none beyond its end
abbrev pub counted : List ℕ → Word
counted counts t = slice_index counts t

-- the word of a bag
abbrev pub word_of : Bag → Word
word_of bag = counted bag.counts
