-- Lists of bags, seen as sets of words.
use Rattle.std.specs.Prelude.{◌≡◌, ℕ, zero, suc, List, [], ◌∷◌, ◌⊎◌, ◌↔◌}
use Rattle.pat_words_spec.specs.Words.{Word, no_word, plus, LiesIn}
use Rattle.pat_words_spec.specs.Patterns.{Pat, Sum, Prod, Star, Language, In}
use Rattle.pat_words_spec.specs.Languages.{EitherOf, SumOf, StarOf}
use Rattle.pat_bags.specs.declared.Bag.{Bag}
use Rattle.pat_bags.specs.Views.{word_of}

-- the list has the word
abbrev pub HasWord : List Bag → Word → Type 0
HasWord [] w = ⊥
HasWord (b ∷ bs) w = (word_of b ≡ w) ⊎ HasWord bs w

-- just this word
abbrev pub Only : Word → Language
Only u w = u ≡ w

-- a word that lies in the limit, and is in the set
abbrev pub Within : Word → Language → Word → Type 0
Within limit L w = LiesIn w limit × L w

-- so many times the word
abbrev pub multiple : ℕ → Word → Word
multiple zero u = no_word
multiple (suc n) u = plus u (multiple n u)

-- w is a word of the set and some times the step
abbrev pub Reached : Language → Word → Word → Type 0
Reached L step w = (n : ℕ) × (s : Word) × L s × (w ≡ plus (multiple n step) s)

-- the list has just the words of the pattern that lie in the limit
abbrev pub ListsWords : List Bag → Pat → Word → Type 0
ListsWords words e limit = (w : Word) → HasWord words w ↔ Within limit (In e) w

-- a list of just the words of the pattern that lie in the limit is put on the stack
abbrev pub PutsWords : List (List Bag) → List (List Bag) → Pat → Word → Type 0
PutsWords old new e limit = (words : List Bag) × (new ≡ words ∷ old) × ListsWords words e limit

-- the two lists on top, the lower one first, give way to one that has these words
abbrev pub JoinsTwo : (Language → Language → Language) → List (List Bag) → List (List Bag) → Type 0
JoinsTwo make (right ∷ left ∷ rest) new =
    (words : List Bag) × (new ≡ words ∷ rest) × ((w : Word) → HasWord words w ↔ make (HasWord left) (HasWord right) w)
JoinsTwo make _ new = ⊥

-- the list on top gives way to one that has these words
abbrev pub JoinsOne : (Language → Language) → List (List Bag) → List (List Bag) → Type 0
JoinsOne make (part ∷ rest) new =
    (words : List Bag) × (new ≡ words ∷ rest) × ((w : Word) → HasWord words w ↔ make (HasWord part) w)
JoinsOne make _ new = ⊥

-- how many parts the pattern has
abbrev pub parts_of : Pat → ℕ
parts_of (Sum e f) = 2
parts_of (Prod e f) = 2
parts_of (Star e) = 1
parts_of _ = 0

-- the lists of the pattern's parts give way to that of the pattern
abbrev pub JoinsParts : Pat → Word → List (List Bag) → List (List Bag) → Type 0
JoinsParts (Sum e f) limit old new = JoinsTwo EitherOf old new
JoinsParts (Prod e f) limit old new = JoinsTwo (λ L M. Within limit (SumOf L M)) old new
JoinsParts (Star e) limit old new = JoinsOne (λ L. Within limit (StarOf L)) old new
JoinsParts e limit old new = PutsWords old new e limit
