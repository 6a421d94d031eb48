-- What the definitions see of names that are bound.
use Rattle.std.specs.Prelude.{ℕ, List, [], ◌∷◌, Option, Some, None, option_map}
use Rattle.pat_infer_spec.specs.Constraints.{Rule, Finding, AtName}
use Rattle.pat_infer_spec.specs.Binders as binders
use Rattle.pat_types.specs.Views.{type_view}
use Rattle.pat_infer_terms.specs.declared.names.Binder.{Binder}

abbrev pub binder_view : Binder → binders.Binder
binder_view b = record { name = b.name; type = type_view b.of; need = option_map type_view b.need }

-- the rule is broken by this name, if there is one
abbrev pub broken_name : Rule → ℕ → Option ℕ → List Finding
broken_name r f None = []
broken_name r f (Some x) = record { rule = r; at = AtName f x } ∷ []
