-- Where expressions stand.
use Rattle.std.proofs.Common.{◌≡◌, refl}
use Rattle.pat_parser_spec.specs.Trees as tree
use Rattle.pat_resolver_spec.specs.Scopes.{expr_at}
use Rattle.pat_tree.specs.declared.expression.ExprForm.{ExprForm, Var, Unit as UnitForm, Bool as BoolForm, Int as IntForm, Str as StrForm, Op'}
use Rattle.pat_tree.specs.Views.{expr_at as written}

-- an expression of the code stands at its span
pub place_is : (e : ExprForm) (at : tree.Span) → expr_at (written e at) ≡ at
place_is (Var x) at = refl
place_is UnitForm at = refl
place_is (BoolForm b) at = refl
place_is (IntForm n) at = refl
place_is (StrForm x) at = refl
place_is (Op' o p a s q b t) at = refl
