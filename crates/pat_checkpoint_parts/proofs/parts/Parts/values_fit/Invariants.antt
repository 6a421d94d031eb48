use Rattle.std.proofs.Common.{◌≡◌, drop}
use Rattle.std.specs.Prelude.{option_map, slice_get}
use Rattle.std.specs.List.{list_all}
use Rattle.pat_core.specs.Views.{kind_view}
use Rattle.pat_reduce_values.specs.ValueViews.{env_view}
use Rattle.pat_checkpoint_spec.specs.Kinds.{value_fits_some}
use Rattle.pat_checkpoint_parts.specs.Shown.{interfaces_in}
use Rattle.pat_checkpoint_parts.proofs.parts.Parts.values_fit.Given as goal

-- what is left decides it
abbrev pub invariant-loop-variable : goal.invariant-loop-variable
invariant-loop-variable l = list_all (λ e. value_fits_some (interfaces_in l.self) e.1 (option_map kind_view (slice_get l.kinds e.0))) (env_view (drop l.variable-index l.env)) ≡ list_all (λ e. value_fits_some (interfaces_in l.self) e.1 (option_map kind_view (slice_get l.kinds e.0))) (env_view l.env)
