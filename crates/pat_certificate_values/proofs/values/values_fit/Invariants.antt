use Rattle.std.proofs.Common.{◌≡◌, drop}
use Rattle.std.specs.List.{list_all}
use Rattle.std.specs.Prelude.{slice_get}
use Rattle.pat_inclusion_spec.specs.Values.{value_fits}
use Rattle.pat_derivation_spec.specs.Derivations.{tag_count}
use Rattle.pat_core.specs.Views.{program_view}
use Rattle.pat_derivations.specs.Views.{vars_view}
use Rattle.pat_certificate_values.proofs.values.values_fit.Given as goal

abbrev pub invariant-loop-interface : goal.invariant-loop-interface
invariant-loop-interface l =
    list_all (λ v. value_fits (tag_count (slice_get (program_view l.program).interfaces v.interface)) v.value) (vars_view (drop l.interface-index l.derivation.vars))
    ≡ list_all (λ v. value_fits (tag_count (slice_get (program_view l.program).interfaces v.interface)) v.value) (vars_view l.derivation.vars)
