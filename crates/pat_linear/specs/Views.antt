-- Linear sets as the definitions see them.
use Rattle.std.specs.Prelude.{List, map}
use Rattle.pat_words_spec.specs.Words.{Word}
use Rattle.pat_bags.specs.declared.Bag.{Bag}
use Rattle.pat_bags.specs.Views.{word_of}
use Rattle.pat_inclusion_spec.specs.LinearSets.{LinearSet, linear_set}
use Rattle.pat_linear.specs.declared.set.LinearSet.{LinearSet as CodeSet}

-- the words of bags
abbrev pub words_of : List Bag → List Word
words_of bags = map word_of bags

-- a set with the words of its bags
abbrev pub set_view : CodeSet → LinearSet
set_view s = linear_set (word_of s.base) (words_of s.periods)

abbrev pub sets_view : List CodeSet → List LinearSet
sets_view sets = map set_view sets

-- a stack of lists of sets
abbrev pub forms_view : List (List CodeSet) → List (List LinearSet)
forms_view forms = map sets_view forms
