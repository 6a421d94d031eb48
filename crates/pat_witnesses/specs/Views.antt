-- Trees in boxes, seen as trees of the definitions.
use Rattle.std.specs.Prelude.{List, [], ◌∷◌, map}
use Rattle.pat_bags.specs.Views.{word_of}
use Rattle.pat_inclusion_spec.specs.bounds.Trees.{Bound, EmptyTree, TagTree, LeftTree, RightTree, BothTree, StarEndTree, StarMoreTree, LowerTree}
use Rattle.pat_inclusion_spec.specs.bounds.Searches.{Search, InsideAnswer, FoundAnswer, LargeAnswer}
use Rattle.pat_witnesses.specs.declared.bound.Bound.{Bound as CodeBound}
use Rattle.pat_witnesses.specs.declared.bound.Bound.TheVariants.{Empty, Tag, Left', Right', Both', StarEnd, StarMore', Lower'}
use Rattle.pat_witnesses.specs.declared.search.Search.{Search as CodeSearch}
use Rattle.pat_witnesses.specs.declared.search.Search.TheVariants.{Inside, Found, Large}

-- the tree without its boxes
abbrev pub bound_view : CodeBound → Bound
bound_view Empty = EmptyTree
bound_view Tag = TagTree
bound_view (Left' p b) = LeftTree (bound_view b)
bound_view (Right' p b) = RightTree (bound_view b)
bound_view (Both' p a q b) = BothTree (bound_view a) (bound_view b)
bound_view StarEnd = StarEndTree
bound_view (StarMore' p a q b) = StarMoreTree (bound_view a) (bound_view b)
bound_view (Lower' p b) = LowerTree (bound_view b)

abbrev pub bounds_view : List CodeBound → List Bound
bounds_view bs = map bound_view bs

-- what a search answers
abbrev pub search_view : CodeSearch → Search
search_view Inside = InsideAnswer
search_view (Found r) = FoundAnswer (word_of r.word) (bound_view r.tree)
search_view Large = LargeAnswer

-- the tree on top gives way to one that is made of it
abbrev pub joined_one : (Bound → Bound) → List Bound → List Bound
joined_one make (a ∷ rest) = make a ∷ rest
joined_one make _ = []

-- the two trees on top give way to one that is made of them, the lower one first
abbrev pub joined : (Bound → Bound → Bound) → List Bound → List Bound
joined make (b ∷ a ∷ rest) = make a b ∷ rest
joined make _ = []
