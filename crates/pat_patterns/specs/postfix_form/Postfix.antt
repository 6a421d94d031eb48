-- Patterns in postfix form: the head of each part, parts before the whole.
use Rattle.std.specs.Prelude.{ℕ, ◌+◌, List, [], ◌∷◌}
use Rattle.pat_patterns.specs.Patterns.{Pat, Zero, One, Tag, Sum, Prod, Star, Var}
use Rattle.pat_patterns.specs.Sizes.{size_of}
use Rattle.pat_patterns.specs.declared.postfix_form.Head.{Head}
use Rattle.pat_patterns.specs.declared.postfix_form.Head.TheVariants.{Zero as ZeroHead, One as OneHead, Tag as TagHead, Var as VarHead, Sum as SumHead, Prod as ProdHead, Star as StarHead}

-- the heads of the pattern, and then the others
abbrev pub postfix_onto : Pat → List Head → List Head
postfix_onto Zero rest = ZeroHead ∷ rest
postfix_onto One rest = OneHead ∷ rest
postfix_onto (Tag m) rest = TagHead m ∷ rest
postfix_onto (Sum e f) rest = postfix_onto e (postfix_onto f (SumHead ∷ rest))
postfix_onto (Prod e f) rest = postfix_onto e (postfix_onto f (ProdHead ∷ rest))
postfix_onto (Star e) rest = postfix_onto e (StarHead ∷ rest)
postfix_onto (Var k) rest = VarHead k ∷ rest

-- the heads of the patterns, those of the last one first, and then the others
abbrev pub postfix_all : List Pat → List Head → List Head
postfix_all [] rest = rest
postfix_all (e ∷ es) rest = postfix_all es (postfix_onto e rest)

-- the patterns that the heads make, on top of those that are there
abbrev pub made_by : List Head → List Pat → List Pat
made_by [] made = made
made_by (ZeroHead ∷ heads) made = made_by heads (Zero ∷ made)
made_by (OneHead ∷ heads) made = made_by heads (One ∷ made)
made_by (TagHead m ∷ heads) made = made_by heads (Tag m ∷ made)
made_by (VarHead k ∷ heads) made = made_by heads (Var k ∷ made)
made_by (SumHead ∷ heads) (f ∷ e ∷ made) = made_by heads (Sum e f ∷ made)
made_by (ProdHead ∷ heads) (f ∷ e ∷ made) = made_by heads (Prod e f ∷ made)
made_by (StarHead ∷ heads) (e ∷ made) = made_by heads (Star e ∷ made)
made_by _ _ = []

-- the nodes of all patterns
abbrev pub nodes : List Pat → ℕ
nodes [] = 0
nodes (e ∷ es) = size_of e + nodes es
