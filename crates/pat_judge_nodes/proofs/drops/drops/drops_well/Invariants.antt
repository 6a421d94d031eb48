use Rattle.std.proofs.Common.{◌≡◌, drop}
use Rattle.std.specs.List.{list_all}
use Rattle.pat_core.specs.Views.{program_view}
use Rattle.pat_derivation_spec.specs.Derivations.{scope_of}
use Rattle.pat_derivation_spec.specs.Demands.{is_dropped_well}
use Rattle.pat_certificate_values.specs.Views.{derivation_view}
use Rattle.pat_obligations.specs.Views.{demands_view}
use Rattle.pat_judge_nodes.proofs.drops.drops.drops_well.Given as goal

abbrev pub invariant-loop-demand : goal.invariant-loop-demand
invariant-loop-demand l =
    list_all (is_dropped_well (scope_of (program_view l.program) (derivation_view l.derivation))) (demands_view (drop l.demand-index l.demands))
    ≡ list_all (is_dropped_well (scope_of (program_view l.program) (derivation_view l.derivation))) (demands_view l.demands)
