-- Which tokens are operators, and what an operator does behind an operand.
use Rattle.std.specs.Prelude.{ℕ, List, Option, Some, None}
use Rattle.pat_lexer_spec.specs.Marks as mark
use Rattle.pat_lexer_spec.specs.Tokens.{Token as Kind, Mark}
use Rattle.pat_semantics_spec.specs.Values.{Op, Add, Sub, Mul, Equal, Less}
use Rattle.pat_parser_spec.specs.Grammar.{Operand}
use Rattle.pat_parser_spec.specs.Machine as m

-- which operator a token is
abbrev pub operator_of : Kind → Option Op
operator_of (Mark mark.Star) = Some Mul
operator_of (Mark mark.Plus) = Some Add
operator_of (Mark mark.Minus) = Some Sub
operator_of (Mark mark.DoubleEquals) = Some Equal
operator_of (Mark mark.Less) = Some Less
operator_of _ = None

-- the move that an operator makes behind an operand
abbrev pub operator_step : List m.Frame → ℕ → ℕ → ℕ → m.Pending → Operand → ℕ → Op → m.Move
operator_step fs o k s p a t Mul = m.times_step fs o k s p a t
operator_step fs o k s p a t Add = m.add_step fs o k s p a t Add
operator_step fs o k s p a t Sub = m.add_step fs o k s p a t Sub
operator_step fs o k s p a t Equal = m.compare_step fs o k s p a t Equal p.compared
operator_step fs o k s p a t Less = m.compare_step fs o k s p a t Less p.compared

-- what stands before the next operand, behind an operand and an operator
abbrev pub pending_behind : Op → m.Pending → Operand → ℕ → m.Pending
pending_behind Mul p a t = record { compared = p.compared; added = p.added; multiplied = Some (m.product_of p.multiplied a t) }
pending_behind Add p a t = record { compared = p.compared; added = Some (Add, m.sum_of p a t); multiplied = None }
pending_behind Sub p a t = record { compared = p.compared; added = Some (Sub, m.sum_of p a t); multiplied = None }
pending_behind Equal p a t = record { compared = Some (Equal, m.sum_of p a t); added = None; multiplied = None }
pending_behind Less p a t = record { compared = Some (Less, m.sum_of p a t); added = None; multiplied = None }
