-- A walk down a tree, as a list of tasks.
use Rattle.std.specs.Prelude.{◌≡◌, ℕ, ◌+◌, ◌*◌, ◌<◌, Bool, true, false, ◌||◌, List, [], ◌∷◌, ◌++◌, Option, Some, None, Result, Ok, Err, slice_get, IsTrue, ◌↔◌}
use Rattle.pat_words_spec.specs.Words.{Word, no_word, one, plus}
use Rattle.pat_words_spec.specs.Patterns.{Pat, One, Tag, Sum, Prod, Star, Var}
use Rattle.pat_inclusion_spec.specs.bounds.Trees.{Bound, EmptyTree, TagTree, LeftTree, RightTree, BothTree, StarEndTree, StarMoreTree, LowerTree, tree_size, bounds_of, takes_one, tree_word}

-- what is to be done: to go down a tree along a pattern, to take one message, to forget what was taken, to see that something was
pub data Task : Type 0 where
  WalkTask : (tree : Bound) (pattern : Pat) → Task
  TakeTask : (tag : ℕ) → Task
  ForgetTask : Task
  SeeTask : Task

-- what is to be done in a lower bound, if there is one
abbrev pub opened_bound : Bound → Option Pat → Option (List Task)
opened_bound b None = None
opened_bound b (Some e) = Some (WalkTask b e ∷ [])

-- what the tree's first choice asks for, if the pattern has it
abbrev pub opened : List Pat → Bound → Pat → Option (List Task)
opened system EmptyTree One = Some []
opened system TagTree (Tag m) = Some (TakeTask m ∷ [])
opened system (LeftTree b) (Sum e f) = Some (WalkTask b e ∷ [])
opened system (RightTree b) (Sum e f) = Some (WalkTask b f ∷ [])
opened system (BothTree a b) (Prod e f) = Some (WalkTask a e ∷ WalkTask b f ∷ [])
opened system StarEndTree (Star e) = Some []
opened system (StarMoreTree a b) (Star e) = Some (ForgetTask ∷ WalkTask a e ∷ SeeTask ∷ WalkTask b (Star e) ∷ [])
opened system (LowerTree b) (Var k) = opened_bound b (slice_get system k)
opened system _ _ = None

-- the tasks stand on top, or there are none; or no memory
abbrev pub Opens : {E : Type 0} → Result Bool E → Option (List Task) → List Task → List Task → Type 0
Opens (Ok true) (Some ts) old new = new ≡ ts ++ old
Opens (Ok false) None old new = Unit {0}
Opens (Ok _) _ old new = ⊥
Opens (Err e) o old new = Unit {0}

-- ---- what tasks ask of a word

-- the tasks can be done, and then nothing is left of the word
abbrev pub Done : (ℕ → Pat) → List Task → Bool → Word → Type 0
Done lower [] took w = w ≡ no_word
Done lower (WalkTask b e ∷ ts) took w =
    (u v : Word) × (tree_word lower b e ≡ Some u) × (w ≡ plus v u) × Done lower ts (took || takes_one b) v
Done lower (TakeTask m ∷ ts) took w = (v : Word) × (w ≡ plus v (one m)) × Done lower ts true v
Done lower (ForgetTask ∷ ts) took w = Done lower ts false w
Done lower (SeeTask ∷ ts) took w = IsTrue took × Done lower ts took w

-- a message is taken, or there is none
abbrev pub Takes : ℕ → Bool → Word → Bool → Word → Type 0
Takes m true w took v = (w ≡ plus v (one m)) × IsTrue took
Takes m false w took v = w m ≡ 0

-- how much there is to do
abbrev pub weight : Task → ℕ
weight (WalkTask b e) = 4 * tree_size b
weight _ = 1

abbrev pub weights : List Task → ℕ
weights [] = 0
weights (t ∷ ts) = weight t + weights ts

-- the task is done, and less is to do, which comes to the same; or it can't be done
abbrev pub Does : List Pat → Task → Bool → List Task → Bool → Word → List Task → Bool → Word → Type 0
Does system t true ts took w us taken v =
    (Done (bounds_of system) (t ∷ ts) took w ↔ Done (bounds_of system) us taken v) × (weights us < weights (t ∷ ts))
Does system t false ts took w us taken v = Done (bounds_of system) (t ∷ ts) took w → ⊥
