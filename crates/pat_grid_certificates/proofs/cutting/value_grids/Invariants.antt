use Rattle.std.proofs.Common.{take}
use Rattle.pat_grid_certificates.specs.Views.{values_view}
use Rattle.pat_grid_certificates.specs.Cutting.{AreValueGrids}
use Rattle.pat_grid_certificates.proofs.cutting.value_grids.Given as goal

abbrev pub invariant-loop-value : goal.invariant-loop-value
invariant-loop-value l = AreValueGrids l.k l.tags (values_view (take l.value-index l.values)) l.grids
