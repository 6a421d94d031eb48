-- The first name of a receive clause.
use Rattle.std.proofs.Common.{◌≡◌, ◌≢◌, ℕ, List, refl}
use Rattle.pat_parser_spec.specs.Trees.{Span}
use Rattle.pat_parser_spec.specs.Machine as m
use Rattle.pat_syntax.specs.declared.token.TokenKind.{TokenKind}
use Rattle.pat_syntax.specs.declared.token.TokenKind.TheVariants as kind
use Rattle.pat_syntax.specs.declared.mark.Mark.TheVariants as mark
use Rattle.pat_syntax.specs.Views.{kind_view}

-- another token than the closing bracket has to be a name
pub name_first : (fs : List m.Frame) (o s : ℕ) (r : m.ClauseHead) (d : TokenKind) (w : Span) → kind_view d ≢ kind_view (kind.Mark mark.RoundClose) → m.first_binder fs o s r (kind_view d) w ≡ m.want_name fs o s (m.BinderName r) (kind_view d) w
name_first fs o s r (kind.Mark mark.RoundClose) w h = absurd (h refl)
name_first fs o s r _ w h = refl
