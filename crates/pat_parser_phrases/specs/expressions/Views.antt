-- What the definitions see of operands and of what stands before one.
use Rattle.std.specs.Prelude.{Option, Some, None, option_map}
use Rattle.pat_semantics_spec.specs.Values as values
use Rattle.pat_parser_spec.specs.Grammar.{Operand as AnyOperand}
use Rattle.pat_parser_spec.specs.Machine as m
use Rattle.pat_primitives.specs.declared.Op.{Op}
use Rattle.pat_primitives.specs.Views.{op_view}
use Rattle.pat_tree.specs.Views.{expr_view}
use Rattle.pat_parser_phrases.specs.declared.expressions.operands.Operand.{Operand}
use Rattle.pat_parser_phrases.specs.declared.expressions.operands.Pending.{Pending}

abbrev pub operand_view : Operand → AnyOperand
operand_view a = (expr_view a.value, a.from)

abbrev pub left_view : Option (Op × Operand) → Option (values.Op × AnyOperand)
left_view None = None
left_view (Some x) = Some (op_view x.0, operand_view x.1)

abbrev pub pending_view : Pending → m.Pending
pending_view p = record { compared = left_view p.compared; added = left_view p.added; multiplied = option_map operand_view p.multiplied }
