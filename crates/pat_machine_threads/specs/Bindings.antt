-- A variable with its value.
use Rattle.std.specs.Prelude.{ℕ}
use Rattle.pat_semantics_spec.specs.Values.{Value}
use Rattle.pat_reduce_values.specs.declared.values.Value.{Value as CodeValue}
use Rattle.pat_reduce_values.specs.ValueViews.{value_view}

abbrev pub binding_view : ℕ × CodeValue → ℕ × Value
binding_view b = (b.0, value_view b.1)
