-- Trees that show words: a word of a pattern whose variables have lower bounds.
use Rattle.std.specs.Prelude.{◌≡◌, ℕ, ◌+◌, Bool, true, false, ◌||◌, List, Option, Some, None, slice_get, if◌then◌else◌}
use Rattle.pat_words_spec.specs.Words.{Word, no_word, one, plus}
use Rattle.pat_words_spec.specs.Patterns.{Pat, Zero, One, Tag, Sum, Prod, Star, Var}

-- a tree: what is chosen at each place of a pattern, and at a variable in its lower bound
pub data Bound : Type 0 where
  EmptyTree : Bound
  TagTree : Bound
  LeftTree : (part : Bound) → Bound
  RightTree : (part : Bound) → Bound
  BothTree : (first second : Bound) → Bound
  StarEndTree : Bound
  StarMoreTree : (first rest : Bound) → Bound
  LowerTree : (part : Bound) → Bound

-- the number of nodes
abbrev pub tree_size : Bound → ℕ
tree_size (LeftTree b) = 1 + tree_size b
tree_size (RightTree b) = 1 + tree_size b
tree_size (BothTree a b) = 1 + (tree_size a + tree_size b)
tree_size (StarMoreTree a b) = 1 + (tree_size a + tree_size b)
tree_size (LowerTree b) = 1 + tree_size b
tree_size _ = 1

-- the lower bound of each variable of a system of patterns; 0 for a variable past its end
abbrev pub bound_in : Option Pat → Pat
bound_in None = Zero
bound_in (Some e) = e

abbrev pub bounds_of : List Pat → ℕ → Pat
bounds_of system k = bound_in (slice_get system k)

-- the tree shows the word for the pattern
abbrev pub Shows : (ℕ → Pat) → Bound → Pat → Word → Type 0
Shows lower EmptyTree One w = w ≡ no_word
Shows lower TagTree (Tag m) w = w ≡ one m
Shows lower (LeftTree b) (Sum e f) w = Shows lower b e w
Shows lower (RightTree b) (Sum e f) w = Shows lower b f w
Shows lower (BothTree a b) (Prod e f) w = (u v : Word) × Shows lower a e u × Shows lower b f v × (w ≡ plus u v)
Shows lower StarEndTree (Star e) w = w ≡ no_word
Shows lower (StarMoreTree a b) (Star e) w =
    (u v : Word) × Shows lower a e u × Shows lower b (Star e) v × (u ≡ no_word → ⊥) × (w ≡ plus u v)
Shows lower (LowerTree b) (Var k) w = Shows lower b (lower k) w
Shows lower _ _ w = ⊥

-- some tree shows the word
abbrev pub Derivable : (ℕ → Pat) → Pat → Word → Type 0
Derivable lower e w = (b : Bound) × Shows lower b e w

-- the words that are derivable for each variable
abbrev pub derivable : (ℕ → Pat) → ℕ → Word → Type 0
derivable lower k w = Derivable lower (Var k) w

-- ---- the word of a tree, computed

-- whether the tree takes a message
abbrev pub takes_one : Bound → Bool
takes_one TagTree = true
takes_one (LeftTree b) = takes_one b
takes_one (RightTree b) = takes_one b
takes_one (BothTree a b) = takes_one a || takes_one b
takes_one (StarMoreTree a b) = takes_one a || takes_one b
takes_one (LowerTree b) = takes_one b
takes_one _ = false

-- both words together, if there are both
abbrev pub plus_if : Option Word → Option Word → Option Word
plus_if (Some u) (Some v) = Some (plus u v)
plus_if _ _ = None

-- the word, if the test says yes
abbrev pub kept_if : Bool → Option Word → Option Word
kept_if b u = if b then u else None

-- the word that the tree shows for the pattern, if its choices are choices of the pattern
abbrev pub tree_word : (ℕ → Pat) → Bound → Pat → Option Word
tree_word lower EmptyTree One = Some no_word
tree_word lower TagTree (Tag m) = Some (one m)
tree_word lower (LeftTree b) (Sum e f) = tree_word lower b e
tree_word lower (RightTree b) (Sum e f) = tree_word lower b f
tree_word lower (BothTree a b) (Prod e f) = plus_if (tree_word lower a e) (tree_word lower b f)
tree_word lower StarEndTree (Star e) = Some no_word
tree_word lower (StarMoreTree a b) (Star e) = plus_if (kept_if (takes_one a) (tree_word lower a e)) (tree_word lower b (Star e))
tree_word lower (LowerTree b) (Var k) = tree_word lower b (lower k)
tree_word lower _ _ = None
