-- What the code's values and environments are in the definitions.
use Rattle.std.specs.Prelude.{ℕ, List, map}
use Rattle.pat_primitives.specs.Values.{UnitConst, BoolConst, IntConst, TextConst, Value, Const, Mailbox, Env}
use Rattle.pat_reduce_values.specs.declared.values.Value.{Value as CodeValue}
use Rattle.pat_reduce_values.specs.declared.values.Value.TheVariants as value
use Rattle.pat_reduce_values.specs.declared.values.ValueRef.{ValueRef}
use Rattle.pat_reduce_values.specs.declared.values.ValueRef.TheVariants as reference

abbrev pub value_view : CodeValue → Value
value_view value.Unit = Const UnitConst
value_view (value.Bool b) = Const (BoolConst b)
value_view (value.Int n) = Const (IntConst n)
value_view (value.Str s) = Const (TextConst s)
value_view (value.Mailbox a) = Mailbox a

abbrev pub reference_view : ValueRef → Value
reference_view reference.Unit = Const UnitConst
reference_view (reference.Bool b) = Const (BoolConst b)
reference_view (reference.Int n) = Const (IntConst n)
reference_view (reference.Str s) = Const (TextConst s.now)
reference_view (reference.Mailbox a) = Mailbox a

abbrev pub env_view : List (ℕ × CodeValue) → Env
env_view env = map (λ b. (b.0, value_view b.1)) env
