use Rattle.std.proofs.Common.{◌≡◌, drop}
use Rattle.std.specs.List.{list_all}
use Rattle.pat_derivation_spec.specs.Demands.{is_used_well}
use Rattle.pat_obligations.specs.Views.{demands_view}
use Rattle.pat_judge_nodes.proofs.uses.uses.uses_well.Given as goal

abbrev pub invariant-loop-demand : goal.invariant-loop-demand
invariant-loop-demand l = list_all is_used_well (demands_view (drop l.demand-index l.demands)) ≡ list_all is_used_well (demands_view l.demands)
