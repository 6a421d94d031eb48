-- Numbers by which periods make a word: the first list of them in the order of lists.
use Rattle.std.specs.Prelude.{◌≡◌, ℕ, zero, suc, Bool, true, false, ◌&&◌, ◌||◌, nat_eq, nat_lt, ◌≤◌, List, [], ◌∷◌, Option, Some, None, IsTrue}
use Rattle.std.specs.List.{list_any}
use Rattle.pat_words_spec.specs.Words.{Word}
use Rattle.pat_inclusion_spec.specs.Counts.{most_tags}
use Rattle.pat_inclusion_spec.specs.Covers.{makes}
use Rattle.pat_inclusion_spec.specs.Points.{comes_before}

-- the periods make the word by these numbers, and by no list of numbers that comes before them
abbrev pub MakesFirst : ℕ → List Word → List ℕ → Word → Type 0
MakesFirst n ps cs w =
    IsTrue (makes n ps cs w) × ((ds : List ℕ) → IsTrue (makes n ps ds w) → comes_before ds cs ≡ false)

-- the periods don't make the word by any numbers
abbrev pub NoNumbers : ℕ → List Word → Word → Type 0
NoNumbers n ps w = (cs : List ℕ) → IsTrue (makes n ps cs w) → ⊥

-- the first numbers, if there are any
abbrev pub FindsNumbers : ℕ → List Word → Word → Option (List ℕ) → Type 0
FindsNumbers n ps w (Some cs) = MakesFirst n ps cs w
FindsNumbers n ps w None = NoNumbers n ps w

-- where the one period makes the word, it does so by this number, and by no lower one
abbrev pub IsLeastTimes : Word → Word → ℕ → Type 0
IsLeastTimes p w m =
    (c : ℕ) → IsTrue (makes most_tags (p ∷ []) (c ∷ []) w) → (m ≤ c) × IsTrue (makes most_tags (p ∷ []) (m ∷ []) w)

-- one of the periods has the tag
abbrev pub occurs : ℕ → List Word → Bool
occurs t ps = list_any (λ p. nat_lt 0 (p t)) ps

-- each of the first n tags that the word has is one of some period's
abbrev pub tags_occur : ℕ → List Word → Word → Bool
tags_occur zero ps w = true
tags_occur (suc n) ps w = tags_occur n ps w && (nat_eq (w n) 0 || occurs n ps)
