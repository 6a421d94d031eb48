-- Linear sets of one word each.
use Rattle.std.specs.Prelude.{◌≡◌, []}
use Rattle.pat_words_spec.specs.Words.{Word}
use Rattle.pat_inclusion_spec.specs.LinearSets.{LinearSet}

-- the set has no periods, so its base alone
abbrev pub IsWord : LinearSet → Type 0
IsWord s = s.periods ≡ []

abbrev pub base_of : LinearSet → Word
base_of s = s.base
