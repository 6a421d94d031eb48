-- The place of a term is that of its view.
use Rattle.std.proofs.Common.{◌≡◌, refl}
use Rattle.pat_parser_spec.specs.Trees as trees
use Rattle.pat_tree.specs.declared.term.Form.{Form, Let', If', Print, New, Spawn', Free, Guard', Send, Call, Value}
use Rattle.pat_tree.specs.Views.{term_at}

pub place_is : (f : Form) (at : trees.Span) → trees.term_at (term_at f at) ≡ at
place_is (Let' x p m s q n t) at = refl
place_is (If' e p m s q n t) at = refl
place_is (Print e) at = refl
place_is (New x) at = refl
place_is (Spawn' p m s) at = refl
place_is (Free x) at = refl
place_is (Guard' x p shape cs) at = refl
place_is (Send x t es) at = refl
place_is (Call f es) at = refl
place_is (Value e) at = refl
