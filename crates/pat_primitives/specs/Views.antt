-- What the definitions see of base types, polarities and operators.
use Rattle.pat_semantics_spec.specs.Values as values
use Rattle.pat_semantics_spec.specs.Programs as programs
use Rattle.pat_primitives.specs.declared.Base.{Base}
use Rattle.pat_primitives.specs.declared.Base.TheVariants as base
use Rattle.pat_primitives.specs.declared.Polarity.{Polarity}
use Rattle.pat_primitives.specs.declared.Polarity.TheVariants as polarity
use Rattle.pat_primitives.specs.declared.Op.{Op}
use Rattle.pat_primitives.specs.declared.Op.TheVariants as op

abbrev pub base_view : Base → values.Base
base_view base.Unit = values.BaseUnit
base_view base.Bool = values.BaseBool
base_view base.Int = values.BaseInt
base_view base.Str = values.BaseText

abbrev pub polarity_view : Polarity → programs.Polarity
polarity_view polarity.Sending = programs.Sending
polarity_view polarity.Receiving = programs.Receiving

abbrev pub op_view : Op → values.Op
op_view op.Add = values.Add
op_view op.Sub = values.Sub
op_view op.Mul = values.Mul
op_view op.Equal = values.Equal
op_view op.Less = values.Less
