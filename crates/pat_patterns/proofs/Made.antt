-- Heads in postfix form make the pattern that they are of.
use Rattle.std.proofs.Common.{◌≡◌, List, [], ◌∷◌, refl, ◌∙◌}
use Rattle.pat_patterns.specs.Patterns.{Pat, Zero, One, Tag, Sum, Prod, Star, Var}
use Rattle.pat_patterns.specs.declared.postfix_form.Head.{Head}
use Rattle.pat_patterns.specs.declared.postfix_form.Head.TheVariants.{Sum as SumHead, Prod as ProdHead, Star as StarHead}
use Rattle.pat_patterns.specs.postfix_form.Postfix.{postfix_onto, made_by}

-- the heads of a pattern put it on top
pub made_onto : (e : Pat) (rest : List Head) (made : List Pat) → made_by (postfix_onto e rest) made ≡ made_by rest (e ∷ made)
made_onto Zero rest made = refl
made_onto One rest made = refl
made_onto (Tag m) rest made = refl
made_onto (Var k) rest made = refl
made_onto (Sum e f) rest made =
    made_onto e (postfix_onto f (SumHead ∷ rest)) made ∙ made_onto f (SumHead ∷ rest) (e ∷ made)
made_onto (Prod e f) rest made =
    made_onto e (postfix_onto f (ProdHead ∷ rest)) made ∙ made_onto f (ProdHead ∷ rest) (e ∷ made)
made_onto (Star e) rest made = made_onto e (StarHead ∷ rest) made

-- all heads of a pattern make it alone
pub made_whole : (e : Pat) → made_by (postfix_onto e []) [] ≡ e ∷ []
made_whole e = made_onto e [] []
