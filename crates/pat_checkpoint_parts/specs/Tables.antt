-- What a table of lets and a reference to a type are in the definitions.
use Rattle.std.specs.Prelude.{◌≡◌, ℕ, List, Option, Some, None, option_map, slice_get}
use Rattle.pat_semantics_spec.specs.Values.{BaseUnit}
use Rattle.pat_semantics_spec.specs.Programs.{Program}
use Rattle.pat_type_system_spec.specs.Types as types
use Rattle.pat_types.specs.declared.types.TypeOf.{TypeOf}
use Rattle.pat_types.specs.Views.{result_view}
use Rattle.pat_checkpoint_spec.specs.Kinds.{let_with}
use Rattle.pat_checkpoint_parts.specs.declared.lets.Binding.{Binding}

abbrev pub binding_view : Binding → Option ℕ × ℕ
binding_view b = (b.var, b.bound)

abbrev pub binding_in : Option (Option Binding) → Option (Option ℕ × ℕ)
binding_in None = None
binding_in (Some o) = option_map binding_view o

-- the binding at the place, if there is one
abbrev pub binding_at : List (Option Binding) → ℕ → Option (Option ℕ × ℕ)
binding_at lets b = binding_in (slice_get lets b)

-- at each body stands the binding of the first let with this body
abbrev pub AreLets : Program → List (Option Binding) → Type 0
AreLets p lets = (b : ℕ) → binding_at lets b ≡ let_with p.nodes b

-- a type, and that of () where there is none
abbrev pub type_or_unit : Option TypeOf → types.TypeOf
type_or_unit None = types.BaseTerm BaseUnit
type_or_unit (Some t) = result_view t
