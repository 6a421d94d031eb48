-- Which tags words and patterns have.
use Rattle.std.specs.Prelude.{◌≡◌, ℕ, ◌≤◌, Bool, true, ◌&&◌, nat_lt}
use Rattle.pat_words_spec.specs.Words.{Word}
use Rattle.pat_words_spec.specs.Patterns.{Pat, Tag, Sum, Prod, Star}

-- the word has none of the tags from n on
abbrev pub HasTagsBelow : ℕ → Word → Type 0
HasTagsBelow n w = (t : ℕ) → n ≤ t → w t ≡ 0

-- the tags in the pattern are below this number
abbrev pub tags_below : ℕ → Pat → Bool
tags_below n (Tag m) = nat_lt m n
tags_below n (Sum e f) = tags_below n e && tags_below n f
tags_below n (Prod e f) = tags_below n e && tags_below n f
tags_below n (Star e) = tags_below n e
tags_below n _ = true
